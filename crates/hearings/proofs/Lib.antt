-- Laws of this crate's proofs.
pub mod Close
pub mod Unique

-- Laws of this crate's proofs.
pub mod Sides
pub mod Texts
pub mod Words
pub mod Outputs

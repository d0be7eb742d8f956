-- Laws of this crate's proofs.
pub mod Tables
pub mod Places
pub mod Seen

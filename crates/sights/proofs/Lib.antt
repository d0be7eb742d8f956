-- Laws of this crate's proofs.
pub mod Characters
pub mod Lines
pub mod Passing
pub mod Clock
pub mod Whole

-- Laws of this crate's proofs.
pub mod Begins
pub mod Headers
pub mod Unknown
pub mod Ends
pub mod Times
pub mod Sizes
pub mod Bits
pub mod Places
pub mod Walking
pub mod Answers
pub mod Unique

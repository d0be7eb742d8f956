-- Laws of this crate's proofs.
pub mod Inputs
pub mod Close
pub mod Unique
pub mod JudgeUnique

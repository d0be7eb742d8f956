-- The answer of a step with its charges as one number.
pub mod Ruled

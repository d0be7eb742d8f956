-- Where a block of a dump is cut, and what a step comes to.
pub mod Cuts
pub mod Stepped

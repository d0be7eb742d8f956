-- Laws of this crate's proofs.
pub mod Bits
pub mod Lanes
pub mod Compared
pub mod Entries
pub mod Columns
pub mod Valid
pub mod Begins
pub mod Seen
pub mod Owners
pub mod Tails
pub mod Puts
pub mod Shown

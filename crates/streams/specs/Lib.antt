-- What the two programs write, as functions of all the bytes that they read, and block by block.
pub mod Streams
pub mod Arbiter
pub mod Judging
pub mod Heads
pub mod Blocks
pub mod Turns
pub mod Going
pub mod Breaches
pub mod Stays
pub mod Promises
pub mod Enough
pub mod Examples

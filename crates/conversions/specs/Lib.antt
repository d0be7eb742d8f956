-- What the two converting programs write, as functions of all the bytes that they read, and block by block.
pub mod Positions
pub mod Dumping
pub mod Undumping
pub mod Blocks
pub mod Heads
pub mod DumpPromises
pub mod UndumpPromises

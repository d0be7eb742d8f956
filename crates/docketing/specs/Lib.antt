-- The judge for C: its bytes and what they have room for, the two calls, examples of both, and what is promised. Read them in this order.
pub mod Bytes
pub mod Fits
pub mod Calls
pub mod Examples
pub mod Promises

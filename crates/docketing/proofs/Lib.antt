-- Laws of the judge's bytes and calls.
pub mod Bytes
pub mod Calls
pub mod Examples

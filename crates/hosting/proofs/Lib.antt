pub mod Bytes
pub mod Calls
pub mod Examples

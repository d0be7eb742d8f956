pub mod Flags
pub mod Codes
pub mod Unique

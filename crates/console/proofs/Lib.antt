pub mod Onwards
pub mod Ends
pub mod Begun

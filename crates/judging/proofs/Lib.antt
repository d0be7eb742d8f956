pub mod Lost
pub mod Digits
pub mod Close
pub mod Unique

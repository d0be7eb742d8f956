pub mod Bits
pub mod Puts
pub mod Digits
pub mod Clock
pub mod Steps
pub mod Writers
pub mod Unique

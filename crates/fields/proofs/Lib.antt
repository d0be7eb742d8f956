pub mod Digits
pub mod Separators
pub mod Stores
pub mod Decimals
pub mod Writers

pub mod Masks
pub mod Arms
pub mod Stored
pub mod Lost

-- A step by its lines, and the digits of its time.
pub mod Changed
pub mod Clock

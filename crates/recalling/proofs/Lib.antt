-- The laws of the calls that vcd2trace makes.
pub mod Places
pub mod Taken
pub mod Answers
pub mod Unique

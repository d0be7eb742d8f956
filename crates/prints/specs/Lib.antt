-- What a trace line is made of.
pub mod Prints

-- Numbers that stand for flags.
pub mod Flags

pub mod Phases
pub mod Bursts
pub mod Decision
pub mod Step
pub mod Unique

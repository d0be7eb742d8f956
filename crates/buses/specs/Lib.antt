-- The arbiter's state in plain numbers.
pub mod Buses

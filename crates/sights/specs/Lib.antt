-- What is seen of a step, one variable after the other.
pub mod Sights
pub mod Clock

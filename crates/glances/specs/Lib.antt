-- What a glance at a line finds.
pub mod Glances
pub mod Sees
pub mod Puts

-- Where a block of stimulus lines stops.
pub mod Stops

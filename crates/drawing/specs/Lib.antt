-- Where a block of trace lines stops.
pub mod Stops

-- What the walk over the lines of a step finds.
pub mod Walks

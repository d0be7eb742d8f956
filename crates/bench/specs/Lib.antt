-- What the bench's caller says and holds.
pub mod Results
pub mod Bench

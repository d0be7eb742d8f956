-- What the judge's sums and its loop over the lost counts lean on.
pub mod Room
pub mod Lost

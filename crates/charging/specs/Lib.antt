-- What the judge's charges lean on.
pub mod Ready

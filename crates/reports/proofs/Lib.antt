pub mod Fits
pub mod Reports

-- Bytes as one number, low byte first.
pub mod Words

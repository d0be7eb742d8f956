-- What the judge over lent bytes promises.
pub mod Hearings

-- What lent bytes hold, in plain numbers.
pub mod Octets

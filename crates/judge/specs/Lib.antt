-- What the judging program's contracts cite beside the definitions of the other crates, and its laws.
pub mod Breaches
pub mod Laws

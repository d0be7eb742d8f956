-- What the contracts of vcd2trace cite beside the definitions of the other crates, and its laws.
pub mod Answers
pub mod Laws

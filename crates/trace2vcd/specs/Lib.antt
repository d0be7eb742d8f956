-- What the contracts of trace2vcd cite beside the definitions of the other crates, and its laws.
pub mod Answers
pub mod Laws

-- What the calls of the two programs answer: for one line, for the breaches of a cycle, and for a header.
pub mod Heads
pub mod Promises

-- What the host's tests say, and what a step comes to before it is taken.
pub mod Tests
pub mod Entry

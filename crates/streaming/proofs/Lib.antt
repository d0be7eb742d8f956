pub mod Answers
pub mod Headed
pub mod Promises
pub mod Unique

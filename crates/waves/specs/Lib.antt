-- The value change dump of request T-01: its variables, its header, its steps as they are written and read, and whole dumps; texts to
-- compare with the request, what is promised of them all, and which number each refusal has.
pub mod Variables
pub mod Header
pub mod Steps
pub mod Reading
pub mod Files
pub mod Texts
pub mod Promises
pub mod Refused

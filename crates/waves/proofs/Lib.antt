-- The laws of a dump.
pub mod Texts
pub mod Bits
pub mod Begins
pub mod Ends
pub mod Times
pub mod Changes
pub mod Shapes
pub mod Unknown
pub mod Columns
pub mod StepTexts
pub mod Steps
pub mod Near
pub mod Header
pub mod Files
pub mod Writers
pub mod Promises

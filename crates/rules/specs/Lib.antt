-- Document 01 as definitions, one file to a subject. Read them in this order, the page beside them. Cases, Cycles and Refused are tables of what
-- they give; Promises says what is proved of a step by its number.
pub mod Results
pub mod Refusals
pub mod Codes
pub mod Masks
pub mod Valid
pub mod Winner
pub mod State
pub mod Phase
pub mod Step
pub mod Cases
pub mod Cycles
pub mod Refused
pub mod Promises

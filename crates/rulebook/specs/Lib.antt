-- The rules of document 01 over traces, and the judge that applies them. Read Columns, Traces and Rules with the page's "Rules the judge applies" beside them;
-- Promises then says what is proved of the judge, Examples what the rules say of the page's printed run, Rows and the Cases what they say of rows
-- and of short traces, and Refused which number each refusal has.
pub mod Results
pub mod Columns
pub mod Traces
pub mod Rules
pub mod State
pub mod Charges
pub mod Step
pub mod Kept
pub mod Named
pub mod Promises
pub mod Examples
pub mod Rows
pub mod Cases
pub mod CasesA
pub mod CasesWatch
pub mod CasesG
pub mod Refused
pub mod Recounted

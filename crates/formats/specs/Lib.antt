-- The lines of document 01: the numbers of the answers, digits, columns, lines, headers, the report, and whole files; texts to
-- compare with the page, what is promised of them all, the round trips through the writers, and which number each refusal has.
pub mod Results
pub mod Answers
pub mod Digits
pub mod Columns
pub mod Fields
pub mod Lines
pub mod Headers
pub mod Report
pub mod Files
pub mod Texts
pub mod Promises
pub mod RoundTrips
pub mod Refused

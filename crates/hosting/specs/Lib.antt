-- The simulator host of document 01: the state's bytes, the calls, and the bytes of some states. Read them in this order, the page beside them.
pub mod Results
pub mod Bytes
pub mod Calls
pub mod Examples

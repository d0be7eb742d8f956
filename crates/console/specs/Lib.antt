-- What a read came to, how a program goes from read to read, how it ends, and what a program is.
pub mod Fed
pub mod Going
pub mod Ends
pub mod Ran
pub mod Programs

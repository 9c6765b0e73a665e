-- What the functions for test programs give.
pub mod Bytes

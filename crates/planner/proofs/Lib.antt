pub mod Stepping
pub mod Promises

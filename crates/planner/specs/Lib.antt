-- What `plan` promises, and what its steps hand to it.
pub mod Promises

pub mod Answers
pub mod Promised
pub mod Stores
pub mod TieRule

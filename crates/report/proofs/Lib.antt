pub mod Putting
pub mod Stretches
pub mod Answers

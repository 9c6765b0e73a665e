pub mod Fronts
pub mod Answers

pub mod Opened
pub mod ReadAnswers
pub mod FindAnswers
pub mod Answers
pub mod Cases
pub mod OneRun
pub mod Reading
pub mod Theorems

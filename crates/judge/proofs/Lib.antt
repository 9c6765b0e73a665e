pub mod Walk
pub mod Answers
pub mod Cases
pub mod Faults
pub mod Theorems
pub mod Verdict

pub mod Cases
pub mod Outcomes
pub mod Sleep
pub mod Theorems

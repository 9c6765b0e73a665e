pub mod Cases
pub mod Steps
pub mod Theorems
pub mod JobOfSlot
pub mod TieRule

-- The words and checks of 01 in formulas. Each file renders one concept; files named Laws hold what is proved of it.
pub mod Bounded
pub mod Bits
pub mod Jobs
pub mod TwoBytes
pub mod Buffers
pub mod Refusals
pub mod Answers
pub mod Checks
pub mod Slots
pub mod Energy
pub mod Runs
pub mod Feasible

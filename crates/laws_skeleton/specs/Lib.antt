-- The least skeleton. Files named Laws hold what is proved of the definitions beside them; `Theorems` has what other crates cite.
pub mod Recursion
pub mod Windows
pub mod Order
pub mod Runs

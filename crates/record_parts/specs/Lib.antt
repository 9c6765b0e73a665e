-- The parts of a plan record in formulas. Files named Laws hold what is proved of the definitions beside them.
pub mod Layout
pub mod Bytes

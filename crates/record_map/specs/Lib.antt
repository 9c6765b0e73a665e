-- The map of a plan record in formulas, packed and taken apart. Files named Laws hold what is proved of the definitions beside them.
pub mod MapBytes
pub mod MapBits
pub mod Stored

-- The C entry in formulas: the answer block, the answer to a call, and what the call promises. Files named Laws hold what is proved of the
-- definitions beside them.
pub mod Block
pub mod Entry
pub mod Promises
pub mod TieRule
pub mod Puts

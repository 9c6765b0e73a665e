-- `Rivals` says what the third demand promises of an answer and a table; `Steps` has what the steps of 01 and 02 lead to; `Theorems` proves the
-- demand, for any planner as far as it can be, and for the plan that 01 defines; `TieRule` and `JobOfSlot` are about card 6 of 02, `Cases` has its list.
pub mod Rivals
pub mod TieRule
pub mod JobOfSlot

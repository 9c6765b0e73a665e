-- The judge's part of 01, with card 3 of 02, in formulas. Files named Laws hold what is proved of the definitions beside them; Theorems says what
-- the judge is worth.
pub mod Faults
pub mod Verdict
pub mod Theorems

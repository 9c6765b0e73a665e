-- Decimal digits in formulas. Files named Laws hold what is proved of the definitions beside them.
pub mod Decimal
pub mod Theorems
pub mod Cases

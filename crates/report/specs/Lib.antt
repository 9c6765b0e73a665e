-- What the program prints, in formulas. Files named Laws hold what is proved of the definitions beside them.
pub mod Report
pub mod Theorems
pub mod Cases

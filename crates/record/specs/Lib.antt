-- Plan record bytes in formulas. Files named Laws hold what is proved of the definitions beside them.
pub mod Record
pub mod Reading
pub mod OneRun

-- The bytes of a job list, in formulas: what they spell, how they are read, how they are written, and that each list has one spelling.
pub mod Bytes
pub mod Reading
pub mod Writing
pub mod Parts
pub mod Theorems

pub mod Gathering
pub mod Counting
pub mod Sorting

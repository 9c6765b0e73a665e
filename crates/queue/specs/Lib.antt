-- Runs of earliest deadline first by rank: the ranks a slot may serve, and what the functions promise one another.
pub mod Mask
pub mod Ranks
pub mod Serving
pub mod Arrivals
pub mod Runs

pub mod Chain
pub mod Waking

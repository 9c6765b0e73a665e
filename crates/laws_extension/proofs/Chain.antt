pub mod Ahead
pub mod Alike
pub mod Missing
pub mod Ranked
pub mod Storing
pub mod Theorems
pub mod Turns

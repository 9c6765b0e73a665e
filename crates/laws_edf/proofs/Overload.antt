pub mod Counting
pub mod Ends
pub mod Late
pub mod Laws
pub mod Search
pub mod Shown

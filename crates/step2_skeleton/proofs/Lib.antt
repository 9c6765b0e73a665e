pub mod Sleeping
pub mod Pricing
pub mod Drawing
pub mod Marking

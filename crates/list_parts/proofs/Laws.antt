pub mod Entry
pub mod Fields
pub mod Header
pub mod Maps
pub mod Parts
pub mod Walk

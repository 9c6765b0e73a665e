pub mod Cursor
pub mod Laws
pub mod Full
pub mod Turns
pub mod Energy

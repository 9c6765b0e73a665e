pub mod SlotBytes
pub mod Parts
pub mod Checking
pub mod Spreading
pub mod Bytes
pub mod LayoutLaws

pub mod RankBits
pub mod Events
pub mod Looking
pub mod SlotBySlot
pub mod Filling

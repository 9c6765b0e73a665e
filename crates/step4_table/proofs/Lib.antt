pub mod GoingRank
pub mod AsRun
pub mod Behind
pub mod SlotBySlot

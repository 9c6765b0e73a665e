pub mod FaultyField
pub mod OnlyNumber
pub mod RefusesJob
pub mod TellsJob

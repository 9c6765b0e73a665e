pub mod TellsJob

-- What the pass over the table goes by.
pub mod Settling

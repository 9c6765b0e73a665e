pub mod LengthsAsBefore
pub mod EightMaps
pub mod LaidOut

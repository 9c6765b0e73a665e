pub mod Bits
pub mod MapFilling
pub mod MapRead
pub mod MapBits
pub mod MapBytes
pub mod Stored

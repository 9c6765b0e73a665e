-- What the contracts of the exhaustive search cite.
pub mod Bounds
pub mod Digits

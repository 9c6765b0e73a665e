-- What the proofs of several functions cite.
pub mod Fields
pub mod Putting
pub mod Laws

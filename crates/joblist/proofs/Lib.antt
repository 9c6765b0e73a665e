-- What the proofs of several functions cite.
pub mod Walk
pub mod Promises
pub mod Spelling
pub mod Cases
pub mod Laws
pub mod Theorems

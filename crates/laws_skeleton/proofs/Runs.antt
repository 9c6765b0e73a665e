pub mod Bounds
pub mod Choice
pub mod Clauses
pub mod Laws
pub mod Until
pub mod Values

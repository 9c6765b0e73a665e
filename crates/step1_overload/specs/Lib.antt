-- What the functions of the search promise each other.
pub mod Search
pub mod Pass

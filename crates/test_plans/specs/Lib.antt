-- What the contracts of the comparison cite.
pub mod Tallies

-- What steps 4 and 5 end with, and its figures.
pub mod Finishing

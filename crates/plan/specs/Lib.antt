-- What the program prints of what it reads. `Theorems` has what is proved of it.
pub mod Program
pub mod Theorems
pub mod Cases

-- Earliest deadline first. `Theorems` has the statements about the words of 01; the other files lead to them.
pub mod Run
pub mod Placed
pub mod Lacking
pub mod Pick
pub mod Units
pub mod Apart
pub mod Exchange
pub mod Search
pub mod Rules
pub mod Orders
pub mod Overload

pub mod Cheapest
pub mod FromFront
pub mod Laws
pub mod StartAsleep

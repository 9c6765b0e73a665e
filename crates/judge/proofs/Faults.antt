pub mod Feasibility
pub mod Laws

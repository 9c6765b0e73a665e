-- The sort by a key, where a number stands in it, what the orders are for, lists that are filled place by place, and the lists of a job list.
pub mod Rising
pub mod Counts
pub mod Fronts
pub mod Placing
pub mod Views
pub mod OneProof
pub mod Lists

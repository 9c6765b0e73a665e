-- What step 4 starts from, and what it ends with; which rank goes on.
pub mod Filling
pub mod Going

-- What step 3 starts from, and what it keeps between two slots that it wakes.
pub mod Turns
pub mod Beginning

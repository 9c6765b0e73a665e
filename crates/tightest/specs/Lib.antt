-- Card 7 of 02 in formulas. Slack and Answer are what has to be read; Search is what the functions promise each other.
pub mod Slack
pub mod Answer
pub mod Search
pub mod Theorems

pub mod Ends
pub mod Beginning
pub mod Gathering
pub mod Reading
pub mod Waking
pub mod Growing

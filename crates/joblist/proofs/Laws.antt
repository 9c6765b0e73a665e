pub mod Front
pub mod Input
pub mod Lists
pub mod Places
pub mod RoundTrip

pub mod Listing
pub mod Exits

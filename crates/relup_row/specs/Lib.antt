pub mod Modules
pub mod Release
pub mod Fetches
pub mod Script
pub mod Laws

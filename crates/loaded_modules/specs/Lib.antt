pub mod Loaded
pub mod Laws

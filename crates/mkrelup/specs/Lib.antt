pub mod Options
pub mod Output
pub mod Exits

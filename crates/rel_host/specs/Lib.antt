pub mod FileState
pub mod Options
pub mod Exits
pub mod Paths

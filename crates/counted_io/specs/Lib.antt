pub mod Failures
pub mod Counted
pub mod Prefixes

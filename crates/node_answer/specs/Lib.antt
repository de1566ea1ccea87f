pub mod Refusals
pub mod Lines

pub mod Text
pub mod Refusals

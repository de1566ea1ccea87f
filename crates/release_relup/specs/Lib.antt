pub mod Scripts
pub mod Found
pub mod Refusal
pub mod Warnings
pub mod Made

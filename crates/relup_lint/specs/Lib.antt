pub mod Names
pub mod Script
pub mod Found
pub mod Parts
pub mod Findings
pub mod Memory
pub mod Laws

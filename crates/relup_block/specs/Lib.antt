pub mod Order
pub mod Counts
pub mod Block
pub mod Memory
pub mod Laws

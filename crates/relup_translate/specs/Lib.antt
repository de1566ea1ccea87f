pub mod Fault
pub mod Translation
pub mod Memory
pub mod WellFormed
pub mod Laws

pub mod Refusal
pub mod Order
pub mod Paths
pub mod Source
pub mod Release
pub mod Applications
pub mod Relup
pub mod Unpacking

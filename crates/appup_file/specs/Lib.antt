pub mod Instruction
pub mod Form
pub mod Parts
pub mod Fault
pub mod File
pub mod Search
pub mod Shape
pub mod Laws

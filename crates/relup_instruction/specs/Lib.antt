pub mod Instruction
pub mod Form
pub mod Parts
pub mod Laws

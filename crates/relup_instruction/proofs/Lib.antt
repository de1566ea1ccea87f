pub mod Rows
pub mod Pieces
pub mod PayloadLemmas
pub mod InstructionLemmas
pub mod Wrapped

pub mod Ambiguity
pub mod Match

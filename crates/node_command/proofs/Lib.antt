pub mod Refusals
pub mod CommandLemmas
pub mod ReleaseLemmas

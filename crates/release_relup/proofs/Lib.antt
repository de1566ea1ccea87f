pub mod FoundLemmas
pub mod RefusalLemmas
pub mod ScriptLemmas
pub mod NameLemmas
pub mod PrintLemmas
pub mod PlaceLemmas

pub mod EntryLemmas
pub mod ScriptLemmas
pub mod LawLemmas
pub mod NameLemmas

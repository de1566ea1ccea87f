pub mod Rows
pub mod EntryLemmas
pub mod RelupLemmas
pub mod Printed
pub mod FileLemmas
pub mod ScriptLemmas

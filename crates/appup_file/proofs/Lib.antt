pub mod LongRows
pub mod FileLemmas
pub mod Defaults
pub mod FullTerms
pub mod Spellings
pub mod TermLemmas
mod ShapeLemmas

mod FaultLemmas
mod WalkLemmas
mod PatternLemmas
mod AskedLemmas
pub mod NameLemmas

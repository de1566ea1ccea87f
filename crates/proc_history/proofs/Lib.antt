pub mod Prefixes
pub mod Entries
pub mod ReleaseLemmas
pub mod Beginnings
pub mod StandLemmas
pub mod ThreadLemmas

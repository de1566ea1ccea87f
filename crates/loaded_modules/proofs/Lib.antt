pub mod LoadedLemmas
pub mod ListingLemmas
pub mod NamedLemmas

pub mod FirstLemmas
pub mod EarliestLemmas
pub mod LookLemmas
pub mod ModuleLemmas
pub mod NeedLemmas

pub mod WalkLemmas
pub mod AppLemmas

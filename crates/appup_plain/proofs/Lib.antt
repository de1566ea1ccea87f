pub mod PlainLemmas
mod WalkLemmas

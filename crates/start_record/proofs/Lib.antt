pub mod SpellingLemmas
pub mod StartMoments

pub mod AppLemmas
pub mod SlotLemmas
pub mod SpotLemmas
pub mod ChildLemmas
pub mod RestartLemmas

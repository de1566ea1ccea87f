mod NamesInOrder
mod StaleLemmas
mod ReachLemmas
mod UpgradeLemmas
pub mod RunLemmas

pub use Rattle.node_store.proofs.Commits
pub mod NewNodes
pub mod Boots
pub mod BootLists
pub mod OneShotLemmas
pub mod RepairLemmas
pub mod BootMoments
mod BadRecords
pub mod ReleaseLemmas
pub mod CreationLemmas
pub mod PlaceLemmas
pub mod InstallLemmas

pub use Rattle.relup_exec.specs.Following
pub use Rattle.relup_exec.specs.Fault
pub mod Failure
pub mod Upgrade
pub mod Names
pub mod Stale
pub mod Running
pub mod InMemory

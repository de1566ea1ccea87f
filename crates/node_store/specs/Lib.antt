pub mod Start
pub mod Image
pub mod Compaction
pub mod Events
pub mod State
pub mod Commits
pub mod Refusals
pub mod Commands

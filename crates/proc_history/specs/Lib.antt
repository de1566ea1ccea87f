pub use Rattle.mod_table.specs.InMemory
pub mod Events
pub mod Codes
pub mod Values
pub mod Outcomes
pub mod Changes
pub mod Histories
pub mod Releases

pub use Rattle.mod_table.specs.Tables
pub use Rattle.mod_table.specs.declared.table.Table
pub mod Library
pub mod InMemory
pub mod Codes
pub mod Reading
pub mod Laws

pub use Rattle.loaded_modules.specs.Loaded
pub mod Walk
pub mod InMemory

pub mod Processes
pub mod Fresh
pub mod InMemory
pub mod Answers
pub mod Floods
pub mod Calls
pub mod ModuleVersions
pub mod Scripts

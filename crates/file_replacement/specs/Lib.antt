pub mod Calls
pub mod Folder
pub mod Laws

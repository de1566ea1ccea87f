pub mod Begun
pub mod Starting
pub mod Running
pub mod Booting
pub mod Laws

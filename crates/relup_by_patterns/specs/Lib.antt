pub mod Plain
pub mod Relup
pub mod Laws

pub mod Plain
pub mod Laws

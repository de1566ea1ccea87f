pub mod Appups
pub mod Releases
pub mod Relup
pub mod Answer
pub mod Laws

pub mod Runtime
pub mod Settled
pub mod Relup
pub mod Laws

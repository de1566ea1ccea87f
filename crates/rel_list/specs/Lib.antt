pub mod Status
pub mod Releases
pub mod Event
pub mod Refusal
pub mod Keyed
pub mod Change
pub mod Laws

pub mod Hands
pub mod Ends
pub mod Processes
pub mod Notes
pub mod Work
pub mod Floods
pub mod Counted
pub mod Desks

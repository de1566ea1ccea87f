pub mod Contents
pub mod Lines
pub mod List
pub mod Report

pub mod Ahead
pub mod AheadView
pub mod Commands
pub mod Exits
pub mod Feed
pub mod Input
pub mod Lines
pub mod ParsedLine

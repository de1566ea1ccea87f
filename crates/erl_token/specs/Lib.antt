pub mod Quotes
pub mod Lexing
pub mod Contents
pub mod Bytes
pub mod Views
pub mod Scanned
pub mod Tiling
pub mod Rows

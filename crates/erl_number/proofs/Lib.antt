pub mod Runs
pub mod Parts
pub mod TextPlaces
pub mod DigitRows
pub mod EscapeLemmas
pub mod Numerals

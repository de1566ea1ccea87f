pub mod Escapes
pub mod Numbers
pub mod Texts
pub mod Views
pub mod Scanned
pub mod FaultTexts

pub mod TermRows
pub mod PlaceLemmas
pub mod Terms
pub mod TermCases

mod Lookups
pub mod LibraryLaws
pub mod Orderly
pub mod OwnRules
pub mod EventLaws
pub mod PermanentLaws
pub mod BootLaws
pub mod OneShotLaws
pub mod RefusalLaws
pub mod RestLaws
mod Kept

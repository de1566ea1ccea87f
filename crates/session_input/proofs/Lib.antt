pub mod Bytes
pub mod Causes
pub mod FeedLemmas
pub mod InputWords
pub mod LineLemmas
pub mod ParsedLines
pub mod CommandLemmas

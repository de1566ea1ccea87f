pub mod BeginLemmas
pub mod EndLemmas
pub mod ChangeLemmas
pub mod PlaceLemmas
pub mod KeepLemmas
pub mod FindLemmas

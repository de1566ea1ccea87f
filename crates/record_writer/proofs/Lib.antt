pub mod DepthLemmas
pub mod FileTermLemmas
pub mod ImageLemmas
pub mod Within
pub mod WritingLemmas

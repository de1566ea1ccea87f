pub mod Sameness
pub mod FirstChange
pub mod IndexLemmas
pub mod HeadedLemmas
pub mod FormLemmas
pub mod ThreadLemmas
pub mod FirstLemmas
pub mod SearchLemmas

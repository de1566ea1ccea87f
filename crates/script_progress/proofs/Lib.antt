pub mod SeenLemmas
pub mod AppLemmas
pub mod ChildLemmas
pub mod CallLemmas

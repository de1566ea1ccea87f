pub mod FreshLemmas
pub mod StartLemmas
pub mod TableLemmas
pub mod CheckLemmas
pub mod ReadyLemmas
pub mod RunningLemmas
pub mod OneShotLemmas

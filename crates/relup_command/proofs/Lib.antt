pub mod AppupLemmas
pub mod AnswerLemmas
pub mod RelupOutcomes
pub mod RelupLines
pub mod NameLemmas

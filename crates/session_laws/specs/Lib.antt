pub mod RunLaws
pub mod KeptEvents
pub mod AnswerLaws
pub mod LawsBelow

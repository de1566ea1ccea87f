pub use Rattle.worker_table.proofs.ThreadLemmas
pub use Rattle.worker_table.proofs.Sameness
pub mod MemberLemmas
pub mod Readings
pub mod FormLemmas
pub mod ChildTables

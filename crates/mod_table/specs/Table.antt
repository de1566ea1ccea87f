-- The table of a supervisor, without where it lies in memory.
use Rattle.std.specs.Prelude.{ℕ, List}
pub use Rattle.worker_table.specs.Table.{OldVersion, WorkerTable}
use Rattle.mod_table.specs.declared.child.Restart.{Restart}
use Rattle.mod_table.specs.declared.child.ChildKind.{ChildKind}

-- a child of a supervisor
pub record ChildSpec : Type 0 where
  pub id : List ℕ
  pub start : List ℕ
  pub restart : Restart
  pub kind : ChildKind

-- the table of a supervisor
pub record SuperTable : Type 0 where
  pub name : List ℕ
  pub vsn : List ℕ
  pub children : List ChildSpec

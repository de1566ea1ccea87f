-- A node, as it lies in memory.
use Rattle.std.specs.Prelude.{◌≡◌, ℕ, List}
use Rattle.node_start.specs.declared.node.Node.{Node}
use Rattle.node_store.specs.State.{IsSound}
use Rattle.held_processes.specs.Following.{HoldsNothing}

-- Its handler is sound, and its seat is of its table and holds no process.
pub record IsSoundNode {D : Type 0} (seen : D → List ℕ) (may_leave : D → List ℕ → Type 0) (node : Node D) : Type 0 where
  pub handler : IsSound seen may_leave node.handler
  pub table : node.seat.table ≡ node.table
  pub free : HoldsNothing node.seat.view

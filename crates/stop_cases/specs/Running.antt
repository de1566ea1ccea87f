-- A node that runs, as it lies in memory.
use Rattle.std.specs.Prelude.{ℕ, List}
use Rattle.node_store.specs.State.{IsSound}
use Rattle.node_processes.specs.InMemory.{AreSound}
use Rattle.stop_cases.specs.declared.running.RunningNode.{RunningNode}

-- its handler and its processes are sound
abbrev pub IsSoundNode : {D : Type 0} → (D → List ℕ) → (D → List ℕ → Type 0) → RunningNode D → Type 0
IsSoundNode seen may_leave node = IsSound seen may_leave node.handler × AreSound node.processes

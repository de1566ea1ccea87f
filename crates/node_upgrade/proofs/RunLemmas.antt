-- What stands where nothing was done.
use Rattle.std.proofs.Common.{refl}
use Rattle.relup_exec.specs.Following.{HoldsNothing}
use Rattle.relup_exec.proofs.OutcomeLemmas.{nothing_held}
use Rattle.node_upgrade.specs.Running.{IsUntouched, NodeState}

pub nothing_done : (n : NodeState) → HoldsNothing n.view → IsUntouched n n
nothing_done n free = record { view = nothing_held n.view free; apps = refl; modules = refl }

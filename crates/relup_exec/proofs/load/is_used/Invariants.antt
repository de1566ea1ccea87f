use Rattle.std.proofs.Common.{◌≡◌, ◌<◌, ℕ, false}
use Rattle.held_processes.specs.Course.{runs}
use Rattle.held_processes.specs.Operations.{modules_by_slot}
use Rattle.relup_exec.proofs.load.is_used.Given as goal

-- no process so far runs the module
abbrev pub invariant-loop-slot : goal.invariant-loop-slot
invariant-loop-slot l = (p : ℕ) → p < l.slot → runs l.users.module.now (modules_by_slot l.users.tree.now p) ≡ false

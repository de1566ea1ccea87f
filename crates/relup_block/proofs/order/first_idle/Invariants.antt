use Rattle.std.proofs.Common.{◌≡◌, drop}
use Rattle.relup_block.specs.Counts.{all_waiting, first_idle_behind}
use Rattle.relup_block.proofs.order.first_idle.Given as goal

abbrev pub invariant-loop-i : goal.invariant-loop-i
invariant-loop-i l = first_idle_behind l.i (all_waiting (drop l.i l.left)) ≡ first_idle_behind 0 (all_waiting l.left)

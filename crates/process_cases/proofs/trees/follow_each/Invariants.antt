use Rattle.std.proofs.Common.{◌≡◌}
use Rattle.process_cases.proofs.trees.follow_each.Given as goal

abbrev pub invariant-loop-step : goal.invariant-loop-step
invariant-loop-step g l =
    (goal.iterator-loop-step g).can_next l.step-iterator × (goal.iterator-loop-step g).is_finite l.step-iterator × (l.seat.table ≡ l.table)

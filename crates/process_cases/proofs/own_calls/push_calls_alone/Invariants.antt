use Rattle.std.proofs.Common.{◌≡◌, []}
use Rattle.process_cases.proofs.own_calls.push_calls_alone.Given as goal

abbrev pub invariant-loop-input : goal.invariant-loop-input
invariant-loop-input g l =
    (goal.iterator-loop-input g).can_next l.input-iterator
    × (goal.iterator-loop-input g).is_finite l.input-iterator
    × (l.seat.table ≡ l.table)
    × (l.seat.view.lent ≡ [])

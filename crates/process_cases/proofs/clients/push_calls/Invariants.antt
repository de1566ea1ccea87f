use Rattle.std.proofs.Common.{◌≡◌}
use Rattle.process_cases.proofs.clients.push_calls.Given as goal

abbrev pub invariant-loop-input : goal.invariant-loop-input
invariant-loop-input l =
    goal.iterator-loop-input.can_next l.input-iterator × goal.iterator-loop-input.is_finite l.input-iterator × (l.pass.table ≡ l.initial.pass.table)

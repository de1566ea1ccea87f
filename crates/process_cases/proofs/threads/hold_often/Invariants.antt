use Rattle.std.proofs.Common.{◌≡◌}
use Rattle.process_cases.proofs.threads.hold_often.Given as goal

abbrev pub invariant-loop : goal.invariant-loop
invariant-loop g l = l.seat.table ≡ l.table

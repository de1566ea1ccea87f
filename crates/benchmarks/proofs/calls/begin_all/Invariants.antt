use Rattle.std.proofs.Common.{◌≡◌}
use Rattle.benchmarks.proofs.calls.begin_all.Given as goal

abbrev pub invariant-loop : goal.invariant-loop
invariant-loop g l = l.seat.table ≡ l.initial.seat.table

use Rattle.std.proofs.Common.{◌≡◌}
use Rattle.benchmarks.proofs.works.CallsWork.work.Given as goal

abbrev pub invariant-loop : goal.invariant-loop
invariant-loop g l = l.pass.table ≡ l.table

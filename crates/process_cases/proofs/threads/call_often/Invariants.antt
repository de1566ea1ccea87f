use Rattle.std.proofs.Common.{◌≡◌}
use Rattle.process_cases.proofs.threads.call_often.Given as goal

abbrev pub invariant-loop : goal.invariant-loop
invariant-loop g l = l.pass.table ≡ l.table

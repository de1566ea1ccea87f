use Rattle.std.proofs.Common.{◌≡◌}
use Rattle.process_cases.proofs.threads.sees_calls.Given as goal

abbrev pub invariant-loop : goal.invariant-loop
invariant-loop l = l.pass.table ≡ l.table

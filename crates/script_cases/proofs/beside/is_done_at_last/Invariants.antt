use Rattle.std.proofs.Common.{◌≡◌}
use Rattle.script_cases.proofs.beside.is_done_at_last.Given as goal

abbrev pub invariant-loop : goal.invariant-loop
invariant-loop l = l.pass.table ≡ l.table

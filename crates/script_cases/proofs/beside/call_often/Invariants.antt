use Rattle.std.proofs.Common.{◌≡◌}
use Rattle.script_cases.proofs.beside.call_often.Given as goal

abbrev pub invariant-loop-done : goal.invariant-loop-done
invariant-loop-done g l = l.pass.table ≡ l.table

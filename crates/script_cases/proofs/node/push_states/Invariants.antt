use Rattle.std.proofs.Common.{◌≡◌}
use Rattle.script_cases.proofs.node.push_states.Given as goal

abbrev pub invariant-loop-slot : goal.invariant-loop-slot
invariant-loop-slot l = l.pass.table ≡ l.table

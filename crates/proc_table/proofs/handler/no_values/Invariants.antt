use Rattle.std.proofs.Common.{◌≡◌, ◌≤◌, replicate, vec_len, vec_capacity}
use Rattle.proc_table.specs.declared.TheConstants.{SLOTS}
use Rattle.proc_history.specs.Values.{nothing}
use Rattle.proc_table.proofs.handler.no_values.Given as goal

abbrev pub invariant-loop : goal.invariant-loop
invariant-loop l = (l.values.items ≡ replicate l.counter nothing) × (vec_len l.values ≡ l.counter) × (SLOTS ≤ vec_capacity l.values)

use Rattle.std.proofs.Common.{◌≡◌}
use Rattle.proc_table.specs.Waits.{Waited}
use Rattle.proc_table.proofs.table.ProcTable.call.Given as goal

abbrev pub invariant-loop : goal.invariant-loop
invariant-loop g l = record {
  table : l.pass.table ≡ l.initial.pass.table;
  waited : Waited l.pid.slot l.initial.pass.view l.pass.view;
}

use Rattle.std.proofs.Common.{◌≡◌}
use Rattle.proc_table.specs.Waits.{Waited}
use Rattle.proc_table.proofs.table.ProcTable.hold.Given as goal

abbrev pub invariant-loop : goal.invariant-loop
invariant-loop g l = record {
  table : l.seat.table ≡ l.initial.seat.table;
  waited : Waited l.pid.slot l.initial.seat.view l.seat.view;
}

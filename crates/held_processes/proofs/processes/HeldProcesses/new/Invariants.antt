use Rattle.std.proofs.Common.{◌≡◌, ◌≤◌, vec_capacity, replicate, None}
use Rattle.proc_table.specs.Agrees.{slots}
use Rattle.held_processes.proofs.processes.HeldProcesses.new.Given as goal

abbrev pub invariant-loop : goal.invariant-loop
invariant-loop l = (l.places.items ≡ replicate l.counter None) × (l.end ≡ slots) × (slots ≤ vec_capacity l.places)

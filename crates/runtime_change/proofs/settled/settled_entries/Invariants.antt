use Rattle.std.proofs.Common.{◌≡◌, map, take}
use Rattle.appup_file.specs.Instruction.{entry_of}
use Rattle.runtime_change.specs.Settled.{settled_entry}
use Rattle.runtime_change.proofs.settled.settled_entries.Given as goal

abbrev pub invariant-loop-entry : goal.invariant-loop-entry
invariant-loop-entry l = map entry_of l.settled.items ≡ map (λ x. settled_entry (entry_of x)) (take l.entry-index l.entries)

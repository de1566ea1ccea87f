use Rattle.std.proofs.Common.{◌≡◌, drop}
use Rattle.erl_term.specs.Value.{members_of}
use Rattle.rel_files.specs.Sketch.{are_numbers}
use Rattle.rel_files.proofs.text.are_numbers.Given as goal

abbrev pub invariant-loop-item : goal.invariant-loop-item
invariant-loop-item l = are_numbers (members_of (drop l.item-index l.items)) ≡ are_numbers (members_of l.items)

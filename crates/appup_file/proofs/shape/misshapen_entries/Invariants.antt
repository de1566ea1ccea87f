use Rattle.std.proofs.Common.{◌≡◌, ◌+◌, drop}
use Rattle.erl_term.specs.Value.{members_of}
use Rattle.appup_file.specs.Shape.{first_misshapen, misshapen_entry}
use Rattle.appup_file.proofs.shape.misshapen_entries.Given as goal

-- the first fault is that of the entries from here on
abbrev pub invariant-loop-i : goal.invariant-loop-i
invariant-loop-i l =
    first_misshapen (misshapen_entry l.direction) 1 (members_of l.entries) ≡ first_misshapen (misshapen_entry l.direction) (l.i + 1) (members_of (drop l.i l.entries))

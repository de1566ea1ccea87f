use Rattle.std.proofs.Common.{◌≡◌, ◌+◌, map, drop}
use Rattle.erl_term.specs.Value.{members_of}
use Rattle.relup_file.specs.Relup.{entry_of}
use Rattle.relup_file.specs.Parts.{entries_in}
use Rattle.relup_file.proofs.Rows.{behind}
use Rattle.relup_file.proofs.entries.entries_in.Given as goal

abbrev pub invariant-loop-i : goal.invariant-loop-i
invariant-loop-i l =
    behind (map entry_of l.entries.items) (entries_in (l.before + l.i) (members_of (drop l.i l.terms))) ≡ entries_in l.before (members_of l.terms)

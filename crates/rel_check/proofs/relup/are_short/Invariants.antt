use Rattle.std.proofs.Common.{◌≡◌, map, drop}
use Rattle.std.specs.List.{list_all}
use Rattle.relup_file.specs.Relup.{entry_of}
use Rattle.rel_check.specs.Relup.{is_short}
use Rattle.rel_check.proofs.relup.are_short.Given as goal

abbrev pub invariant-loop-entry : goal.invariant-loop-entry
invariant-loop-entry l = list_all is_short (map entry_of (drop l.entry-index l.entries)) ≡ list_all is_short (map entry_of l.entries)

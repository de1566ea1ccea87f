use Rattle.std.proofs.Common.{◌≡◌, map, drop}
use Rattle.relup_file.specs.Relup.{entry_of}
use Rattle.relup_file.specs.Search.{entry_for}
use Rattle.relup_file.proofs.search.entry_for.Given as goal

abbrev pub invariant-loop-entry : goal.invariant-loop-entry
invariant-loop-entry l = entry_for l.vsn (map entry_of (drop l.entry-index l.entries)) ≡ entry_for l.vsn (map entry_of l.entries)

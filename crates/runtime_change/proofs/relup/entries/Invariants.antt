use Rattle.std.proofs.Common.{map}
use Rattle.relup_file.specs.Relup.{entry_of}
use Rattle.relup_row.specs.Release.{relup_release_of}
use Rattle.runtime_change.specs.Relup.{entry_between}
use Rattle.runtime_change.proofs.EntryLemmas.{Kept}
use Rattle.runtime_change.proofs.relup.entries.Given as goal

abbrev pub invariant-loop-other : goal.invariant-loop-other
invariant-loop-other l = Kept (entry_between l.restart l.direction (relup_release_of l.new)) l.others l.other-index (map entry_of l.entries.items)

use Rattle.std.proofs.Common.{map}
use Rattle.appup_file.specs.Instruction.{entry_of, appup_of}
use Rattle.appup_file.specs.Search.{entries_of}
use Rattle.appup_plain.proofs.WalkLemmas.{Kept}
use Rattle.appup_plain.proofs.plain.plain_entries.Given as goal

abbrev pub invariant-loop-vsn : goal.invariant-loop-vsn
invariant-loop-vsn l = Kept (entries_of l.direction (appup_of l.appup)) l.asked l.vsn-index (map entry_of l.plain.items)

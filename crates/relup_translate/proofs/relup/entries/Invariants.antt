use Rattle.std.proofs.Common.{◌≡◌, map, take}
use Rattle.relup_file.specs.Relup.{entry_of}
use Rattle.relup_row.specs.Release.{relup_release_of}
use Rattle.relup_translate.specs.Translation.{entry}
use Rattle.relup_translate.proofs.relup.entries.Given as goal

abbrev pub invariant-loop-other : goal.invariant-loop-other
invariant-loop-other l = map entry_of l.entries.items ≡ map (entry l.direction (relup_release_of l.new)) (map relup_release_of (take l.other-index l.others))

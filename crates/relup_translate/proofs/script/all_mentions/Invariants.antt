use Rattle.std.proofs.Common.{◌≡◌, ◌++◌, map, drop}
use Rattle.std.specs.List.{flat_map}
use Rattle.relup_row.specs.Release.{way_of}
use Rattle.relup_row.specs.Fetches.{mention_of}
use Rattle.relup_row.specs.Script.{mentions}
use Rattle.relup_translate.specs.Memory.{rows_of}
use Rattle.relup_translate.proofs.script.all_mentions.Given as goal

abbrev pub invariant-loop-change : goal.invariant-loop-change
invariant-loop-change l = map mention_of l.all.items ++ flat_map (mentions (way_of l.way)) (rows_of (drop l.change-index l.changes)) ≡ flat_map (mentions (way_of l.way)) (rows_of l.changes)

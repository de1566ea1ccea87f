use Rattle.std.proofs.Common.{◌≡◌, drop}
use Rattle.std.specs.List.{list_any}
use Rattle.relup_row.specs.Script.{asks_restart}
use Rattle.relup_translate.specs.Memory.{rows_of}
use Rattle.relup_translate.proofs.script.any_asks_restart.Given as goal

abbrev pub invariant-loop-change : goal.invariant-loop-change
invariant-loop-change l = list_any (list_any asks_restart) (rows_of (drop l.change-index l.changes)) ≡ list_any (list_any asks_restart) (rows_of l.changes)

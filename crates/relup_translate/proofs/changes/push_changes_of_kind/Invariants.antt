use Rattle.std.proofs.Common.{◌≡◌, ◌++◌, map, drop}
use Rattle.std.specs.List.{filter_map}
use Rattle.relup_row.specs.Release.{relup_app_of, way_of}
use Rattle.relup_translate.specs.Memory.{row_of_kind, rows_of}
use Rattle.relup_translate.proofs.changes.push_changes_of_kind.Given as goal

abbrev pub invariant-loop-app : goal.invariant-loop-app
invariant-loop-app l = rows_of l.out.items ++ filter_map (row_of_kind l.kind (way_of l.way)) (map relup_app_of (drop l.app-index l.apps)) ≡ rows_of l.initial.out.items ++ filter_map (row_of_kind l.kind (way_of l.way)) (map relup_app_of l.apps)

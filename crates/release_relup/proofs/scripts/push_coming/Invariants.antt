use Rattle.std.proofs.Common.{◌≡◌, ◌++◌, map, drop}
use Rattle.std.specs.List.{filter_map}
use Rattle.appup_file.specs.Instruction.{row_of}
use Rattle.relup_row.specs.Release.{relup_app_of, way_of}
use Rattle.release_relup.specs.Scripts.{coming}
use Rattle.release_relup.proofs.scripts.push_coming.Given as goal

abbrev pub invariant-loop-app : goal.invariant-loop-app
invariant-loop-app l =
    row_of l.instrs.items ++ filter_map (coming (way_of l.way)) (map relup_app_of (drop l.app-index l.apps))
    ≡ row_of l.initial.instrs.items ++ filter_map (coming (way_of l.way)) (map relup_app_of l.apps)

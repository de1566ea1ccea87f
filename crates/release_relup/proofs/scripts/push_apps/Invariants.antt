use Rattle.std.proofs.Common.{◌≡◌, ◌++◌, map, drop}
use Rattle.std.specs.List.{flat_map}
use Rattle.relup_lint.specs.Script.{all_placed}
use Rattle.relup_row.specs.Release.{relup_app_of, relup_release_of}
use Rattle.release_relup.specs.Scripts.{app_placed}
use Rattle.release_relup.proofs.scripts.push_apps.Given as goal

abbrev pub invariant-loop-app : goal.invariant-loop-app
invariant-loop-app l =
    all_placed l.script.items ++ flat_map (app_placed l.direction (relup_release_of l.other)) (map relup_app_of (drop l.app-index l.apps))
    ≡ all_placed l.initial.script.items ++ flat_map (app_placed l.direction (relup_release_of l.other)) (map relup_app_of l.apps)

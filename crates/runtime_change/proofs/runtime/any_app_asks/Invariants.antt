use Rattle.std.proofs.Common.{◌≡◌, map, drop}
use Rattle.std.specs.List.{list_any}
use Rattle.relup_row.specs.Release.{relup_app_of, relup_release_of}
use Rattle.runtime_change.specs.Runtime.{app_asks}
use Rattle.runtime_change.proofs.runtime.any_app_asks.Given as goal

abbrev pub invariant-loop-app : goal.invariant-loop-app
invariant-loop-app l =
    list_any (app_asks l.direction (relup_release_of l.other)) (map relup_app_of (drop l.app-index l.apps))
    ≡ list_any (app_asks l.direction (relup_release_of l.other)) (map relup_app_of l.apps)

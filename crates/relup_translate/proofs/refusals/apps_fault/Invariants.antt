use Rattle.std.proofs.Common.{◌≡◌, map, drop}
use Rattle.relup_row.specs.Release.{way_of, relup_app_of}
use Rattle.relup_translate.specs.Translation.{first_fault, app_fault}
use Rattle.relup_translate.proofs.refusals.apps_fault.Given as goal

abbrev pub invariant-loop-app : goal.invariant-loop-app
invariant-loop-app l = first_fault (app_fault (way_of l.way)) (map relup_app_of (drop l.app-index l.apps)) ≡ first_fault (app_fault (way_of l.way)) (map relup_app_of l.apps)

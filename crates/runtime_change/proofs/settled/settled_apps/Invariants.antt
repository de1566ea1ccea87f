use Rattle.std.proofs.Common.{◌≡◌, map, take}
use Rattle.relup_row.specs.Release.{relup_app_of}
use Rattle.runtime_change.specs.Settled.{settled_app}
use Rattle.runtime_change.proofs.settled.settled_apps.Given as goal

abbrev pub invariant-loop-app : goal.invariant-loop-app
invariant-loop-app l = map relup_app_of l.settled.items ≡ map (λ x. settled_app (relup_app_of x)) (take l.app-index l.apps)

use Rattle.std.proofs.Common.{◌≡◌, map, take}
use Rattle.relup_lint.specs.Script.{all_targets}
use Rattle.relup_row.specs.Release.{relup_app_of}
use Rattle.release_relup.specs.Scripts.{target_app}
use Rattle.release_relup.proofs.scripts.target_apps.Given as goal

abbrev pub invariant-loop-app : goal.invariant-loop-app
invariant-loop-app l = all_targets l.target.items ≡ map (λ x. target_app (relup_app_of x)) (take l.app-index l.app-items)

use Rattle.std.proofs.Common.{◌≡◌, map, drop}
use Rattle.std.specs.List.{find}
use Rattle.relup_block.specs.Order.{is_among}
use Rattle.relup_row.specs.Release.{RelupAppForm, relup_app_of, relup_release_of, owner}
use Rattle.relup_row.proofs.release.RelupRelease.owner.Given as goal

abbrev pub invariant-loop-app : goal.invariant-loop-app
invariant-loop-app l = find (λ (a : RelupAppForm). is_among l.name a.modules) (map relup_app_of (drop l.app-index l.self.apps.items)) ≡ owner l.name (relup_release_of l.self)

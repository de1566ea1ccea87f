use Rattle.std.proofs.Common.{map}
use Rattle.relup_row.specs.Release.{relup_app_of, relup_release_of}
use Rattle.relup_by_patterns.proofs.WalkLemmas.{Kept}
use Rattle.relup_by_patterns.proofs.release.plain_apps.Given as goal

abbrev pub invariant-loop-app : goal.invariant-loop-app
invariant-loop-app l = Kept (map relup_release_of l.ups) (map relup_release_of l.downs) l.apps l.app-index (map relup_app_of l.plain.items)

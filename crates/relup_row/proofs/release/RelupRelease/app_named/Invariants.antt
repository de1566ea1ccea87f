use Rattle.std.proofs.Common.{◌≡◌, map, drop}
use Rattle.std.specs.Str.{bytes_eq}
use Rattle.std.specs.List.{find}
use Rattle.relup_row.specs.Release.{RelupAppForm, relup_app_of, relup_release_of, app_named}
use Rattle.relup_row.proofs.release.RelupRelease.app_named.Given as goal

abbrev pub invariant-loop-app : goal.invariant-loop-app
invariant-loop-app l = find (λ (a : RelupAppForm). bytes_eq a.name l.name) (map relup_app_of (drop l.app-index l.self.apps.items)) ≡ app_named l.name (relup_release_of l.self)

use Rattle.std.proofs.Common.{◌≡◌, List, map, subst, ◌∙◌}
use Rattle.relup_lint.specs.Script.{target_of, all_targets}
use Rattle.relup_row.specs.declared.release.RelupApp.{RelupApp}
use Rattle.relup_row.specs.Release.{relup_app_of}
use Rattle.relup_row.proofs.WalkLemmas.{all_made}
use Rattle.runtime_change.proofs.ScriptLemmas.{twice}
use Rattle.release_relup.specs.Scripts.{target_app}
use Rattle.release_relup.proofs.scripts.target_apps.Goals as goal

pub returns : goal.returns
returns c =
    subst (λ (xs : List RelupApp). all_targets c.loop-app.target.items ≡ map target_app (map relup_app_of xs)) c.deref-app-items.ensures.value
    (all_made target_of (λ x. target_app (relup_app_of x)) c.deref-app-items.result.now c.loop-app.app-index c.loop-app.target.items c.loop-app-test.false c.loop-app.invariant
    ∙ twice relup_app_of target_app c.deref-app-items.result.now)

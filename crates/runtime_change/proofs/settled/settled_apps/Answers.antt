use Rattle.std.proofs.Common.{◌∙◌}
use Rattle.relup_row.specs.Release.{relup_app_of}
use Rattle.relup_row.proofs.WalkLemmas.{all_made}
use Rattle.runtime_change.specs.Settled.{settled_app}
use Rattle.runtime_change.proofs.ScriptLemmas.{twice}
use Rattle.runtime_change.proofs.settled.settled_apps.Goals as goal

pub returns : goal.returns
returns c =
    all_made relup_app_of (λ x. settled_app (relup_app_of x)) c.args.apps.now c.loop-app.app-index c.loop-app.settled.items c.loop-app-test.false c.loop-app.invariant
    ∙ twice relup_app_of settled_app c.args.apps.now

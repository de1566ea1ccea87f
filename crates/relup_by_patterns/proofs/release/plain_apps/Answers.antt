use Rattle.std.proofs.Common.{map, refl}
use Rattle.relup_block.proofs.WalkLemmas.{one_pushed}
use Rattle.relup_row.specs.Release.{relup_app_of, relup_release_of}
use Rattle.relup_by_patterns.proofs.WalkLemmas.{past, at_end}
use Rattle.relup_by_patterns.proofs.release.plain_apps.Goals as goal

pub loop-app-preserved : goal.loop-app-preserved
loop-app-preserved c =
    past (map relup_release_of c.args.ups.now) (map relup_release_of c.args.downs.now) c.args.apps.now c.loop-app.app-index c.app-item.result _
    (map relup_app_of c.loop-app.plain.items) (map relup_app_of c.push.new.self.items) c.loop-app-test.true c.app-item.is
    c.in_ok-plain_app.ensures.made (one_pushed relup_app_of _ _ _ _ c.in_ok-push.ensures.items refl) c.loop-app.invariant

pub returns-clause-made : goal.returns-clause-made
returns-clause-made c =
    at_end (map relup_release_of c.args.ups.now) (map relup_release_of c.args.downs.now) c.args.apps.now c.loop-app.app-index _ c.loop-app-test.false c.loop-app.invariant

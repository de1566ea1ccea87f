use Rattle.std.proofs.Common.{refl}
use Rattle.std.specs.List.{flat_map}
use Rattle.relup_block.proofs.WalkLemmas.{one_further, none_left}
use Rattle.relup_lint.specs.Script.{placed_of}
use Rattle.relup_row.specs.Release.{relup_app_of, relup_release_of}
use Rattle.release_relup.specs.Scripts.{app_placed}
use Rattle.release_relup.proofs.scripts.push_apps.Goals as goal

pub loop-app-preserved : goal.loop-app-preserved
loop-app-preserved c =
    one_further placed_of relup_app_of (flat_map (app_placed c.args.direction (relup_release_of c.args.other.now))) c.args.apps.now c.loop-app.app-index c.app-item.result
    c.loop-app.script.items c.push_app.new.script.items (app_placed c.args.direction (relup_release_of c.args.other.now) (relup_app_of c.app-item.result)) _ c.loop-app-test.true c.app-item.is refl
    c.in_ok-push_app.ensures c.loop-app.invariant

pub returns : goal.returns
returns c =
    none_left placed_of relup_app_of (flat_map (app_placed c.args.direction (relup_release_of c.args.other.now))) c.args.apps.now c.loop-app.app-index c.loop-app.script.items _ refl
    c.loop-app-test.false c.loop-app.invariant

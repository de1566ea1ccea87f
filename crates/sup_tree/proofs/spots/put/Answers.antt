use Rattle.std.proofs.Common.{◌<◌, length, arith}
use Rattle.sup_tree.proofs.SpotLemmas.{spot_put}
use Rattle.sup_tree.proofs.spots.put.Goals as goal

pub returns-clause-put : goal.returns-clause-put
returns-clause-put c =
    let same = c.loop.invariant.1.0 in
    let past = c.loop-test.false in
    let inside : c.args.slot < length c.loop.spots.items = omega (arith, same, past) in
    spot_put c.args.slot c.args.spot c.loop.spots.items c.args.spots.now.items inside c.loop.invariant.1.1.0 c.loop.invariant.0

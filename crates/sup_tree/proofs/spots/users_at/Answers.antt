use Rattle.std.proofs.Common.{map, arith}
use Rattle.proc_table.proofs.Slots.{slots_is}
use Rattle.sup_tree.specs.Tree.{app_of}
use Rattle.sup_tree.proofs.SpotLemmas.{first_noted}
use Rattle.sup_tree.proofs.spots.users_at.Goals as goal

pub loop-slot-init : goal.loop-slot-init
loop-slot-init c = first_noted c.args.«module».now (map app_of c.args.apps.now)

pub bounds-used-slot : goal.bounds-used-slot
bounds-used-slot c =
    let inside = c.loop-slot-test.true in
    let few = c.requires.few in
    let is = slots_is in
    omega (arith, inside, few, is)

use Rattle.std.proofs.Common.{arith}
use Rattle.proc_table.proofs.Slots.{slots_is}
use Rattle.sup_tree.proofs.spots.spots_of.Goals as goal

pub find_again-requires : goal.find_again-requires
find_again-requires c =
    let room = c.in_ok-spots.ensures.exact in
    let is = slots_is in record { room = omega (arith, room, is) }

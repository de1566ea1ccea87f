-- All that is said of how many slots there are.
use Rattle.std.proofs.Common.{◌≡◌, ◌<◌, refl, arith}
use Rattle.proc_table.specs.declared.TheConstants.{SLOTS}
use Rattle.proc_table.specs.Agrees.{slots}

pub slots_is : slots ≡ SLOTS
unfolding slots
slots_is = refl

pub some_slot : 0 < slots
unfolding slots
some_slot = omega arith

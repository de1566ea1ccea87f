use Rattle.std.proofs.Common.{arith}
use Rattle.proc_table.proofs.Slots.{slots_is}
use Rattle.proc_table.proofs.free.note.Goals as goal

pub offset_bounds-next-slot : goal.offset_bounds-next-slot
offset_bounds-next-slot c = let inside = c.requires in let is = slots_is in omega arith

pub bounds-next-slot : goal.bounds-next-slot
bounds-next-slot c = let inside = c.requires in let is = slots_is in omega arith

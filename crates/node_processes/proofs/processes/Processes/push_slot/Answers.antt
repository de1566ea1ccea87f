use Rattle.std.proofs.Common.{arith}
use Rattle.proc_table.proofs.Slots.{slots_is}
use Rattle.node_processes.proofs.processes.Processes.push_slot.Goals as goal

pub overflow_add-count : goal.overflow_add-count
overflow_add-count g c = omega (arith, c.requires.few, slots_is)

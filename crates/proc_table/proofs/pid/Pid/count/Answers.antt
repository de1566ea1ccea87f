use Rattle.std.proofs.Common.{sym}
use Rattle.proc_table.proofs.Slots.{slots_is}
use Rattle.proc_table.proofs.pid.Pid.count.Goals as goal

pub returns : goal.returns
returns c = sym slots_is

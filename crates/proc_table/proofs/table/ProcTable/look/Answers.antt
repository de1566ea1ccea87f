use Rattle.std.proofs.Common.{rules}
use Rattle.proc_history.specs.Histories.{replay}
use Rattle.proc_table.specs.Views.{seen}
use Rattle.proc_table.proofs.table.ProcTable.look.Goals as goal

pub slot_mut-requires : goal.slot_mut-requires
slot_mut-requires c = (search rules, (replay (seen c.args.seat.now.me.0 c.args.pid.slot), cc (c.requires.hand.value)))

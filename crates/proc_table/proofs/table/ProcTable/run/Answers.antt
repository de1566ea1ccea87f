use Rattle.std.proofs.Common.{rules}
use Rattle.proc_history.specs.Histories.{replay}
use Rattle.proc_table.specs.Views.{seen}
use Rattle.proc_table.proofs.PassLemmas.{call_adds}
use Rattle.proc_table.proofs.table.ProcTable.run.Goals as goal

pub slot_mut-requires : goal.slot_mut-requires
slot_mut-requires c = (search rules, (replay (seen c.args.seat.now.me.0 c.args.pid.slot), cc (c.requires.hand.value)))

pub give_call-requires-clause-adds : goal.give_call-requires-clause-adds
give_call-requires-clause-adds c =
    call_adds c.args.pid.slot c.place_of-place.result c.args.pid.round c.args.input c.args.seat.now.me c.slot_mut.result.now c.call-outcome.new.self c.call-outcome.result
    c.place_of-place.ensures c.requires.hand c.requires.pass c.slot_mut.ensures.value c.call-outcome.ensures.outcome c.call-outcome.ensures.value

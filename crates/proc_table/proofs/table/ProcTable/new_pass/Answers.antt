use Rattle.proc_table.proofs.MeetLemmas.{is_new}
use Rattle.proc_table.proofs.table.ProcTable.new_pass.Goals as goal

pub invariant_of-result : goal.invariant_of-result
invariant_of-result c =
    let new = is_new c.seat.inside.seat.me.0 _ _ c.seat.invariant.1.handler c.split-pass.ensures.pass c.learn.ensures.learnt in
    (new.empty, new.pass)

pub returns-clause-made : goal.returns-clause-made
returns-clause-made c =
    let new = is_new c.seat.inside.seat.me.0 _ _ c.seat.invariant.1.handler c.split-pass.ensures.pass c.learn.ensures.learnt in
    rw (← c.seat.view_is, c.split-pass.ensures.handler) new.made

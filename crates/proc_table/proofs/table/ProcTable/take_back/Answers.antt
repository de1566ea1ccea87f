use Rattle.proc_table.proofs.FreeLemmas.{noted_joined}
use Rattle.proc_table.proofs.MeetLemmas.{after_join, joined_handler, with_empty}
use Rattle.proc_table.proofs.table.ProcTable.take_back.Goals as goal

pub invariant_of-seat : goal.invariant_of-seat
invariant_of-seat c =
    let one = c.seat.invariant in
    let two = c.pass.invariant in
    let j = after_join c.seat.inside.seat.me.0 c.pass.inside.seat.me.0 _ _ one.1.known.parts two.1.known.parts (with_empty _ _ _ one.0 c.join.ensures.joined) c.learn.ensures.learnt in
    (j.empty, joined_handler _ _ _ one.1 j, noted_joined _ _ _ _ one.1 one.2 j)

pub returns-clause-joined : goal.returns-clause-joined
returns-clause-joined c =
    let one = c.seat.invariant in
    let two = c.pass.invariant in
    let j = after_join c.seat.inside.seat.me.0 c.pass.inside.seat.me.0 _ _ one.1.known.parts two.1.known.parts (with_empty _ _ _ one.0 c.join.ensures.joined) c.learn.ensures.learnt in
    rw (← c.seat.view_is, ← c.pass.view_is) j.is

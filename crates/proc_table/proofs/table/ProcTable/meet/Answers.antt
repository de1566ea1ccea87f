use Rattle.proc_table.proofs.MeetLemmas.{after_join, joined_pass, with_empty}
use Rattle.proc_table.proofs.table.ProcTable.meet.Goals as goal

pub invariant_of-result : goal.invariant_of-result
invariant_of-result c =
    let one = c.first.invariant in
    let two = c.second.invariant in
    let j = after_join c.first.inside.seat.me.0 c.second.inside.seat.me.0 _ _ one.1.known.parts two.1.known.parts (with_empty _ _ _ one.0 c.join.ensures.joined) c.learn.ensures.learnt in
    (j.empty, joined_pass _ _ _ one.1 j)

pub returns-clause-joined : goal.returns-clause-joined
returns-clause-joined c =
    let one = c.first.invariant in
    let two = c.second.invariant in
    let j = after_join c.first.inside.seat.me.0 c.second.inside.seat.me.0 _ _ one.1.known.parts two.1.known.parts (with_empty _ _ _ one.0 c.join.ensures.joined) c.learn.ensures.learnt in
    rw (← c.first.view_is, ← c.second.view_is) j.is

use Rattle.started_members.proofs.EndLemmas.{one_ended}
use Rattle.started_members.proofs.ends.end_all.Goals as goal

pub loop-last-preserved : goal.loop-last-preserved
loop-last-preserved g c w ended =
    c.loop-last.invariant w (one_ended c.loop-last.members.now c.in-Some.others.now c.in-Some.last.now c.loop-last.access c.end_member.new.access w
    c.in-Some.ensures.cases.0 c.end_member.ensures.ended ended)

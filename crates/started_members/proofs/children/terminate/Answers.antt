use Rattle.std.proofs.Common.{List, Some, subst}
use Rattle.started_members.specs.declared.member.Member.{Member}
use Rattle.started_members.specs.Places.{AreAt, child_in}
use Rattle.started_members.proofs.PlaceLemmas.{ended_there}
use Rattle.started_members.proofs.children.terminate.Goals as goal

pub returns-clause-members : goal.returns-clause-members
returns-clause-members g c =
    let ms = c.args.members.now.items in
    let at = subst (λ (ns : List Member). AreAt (child_in c.args.«module».now c.args.id.now ns) ns (Some (c.in-Some.start, c.in-Some.end))) c.as_slice.ensures.value (rw c.in-Some.is at c.range_of_child.ensures) in
    ended_there (child_in c.args.«module».now c.args.id.now ms) ms c.in-Some.start c.in-Some.end c.remove_below.new.members.items at c.remove_below.ensures

use Rattle.std.proofs.Common.{List, Some, false, subst, sym}
use Rattle.started_members.specs.declared.looks.Stay.TheVariants.{Up}
use Rattle.started_members.specs.declared.member.Member.{Member}
use Rattle.started_members.specs.Places.{AreAt, ChildEndedUnless, ChildLookedAt, child_in}
use Rattle.started_members.specs.Looks.{StateLookedAt, kept_at}
use Rattle.started_members.specs.Ends.{MemberEnded}
use Rattle.started_members.specs.Members.{process_in}
use Rattle.started_members.proofs.PlaceLemmas.{first_is, gone_there, range_there}
use Rattle.started_members.proofs.children.delete.Goals as goal

pub returns-clause-ended : goal.returns-clause-ended
returns-clause-ended g c =
    let ms = c.args.members.now.items in
    let start = c.in-Some.start in
    let o = child_in c.args.«module».now c.args.id.now in
    let v = c.args.access.now in
    let look = c.member_stays.new.access in
    let w = c.end_member.new.access in
    let child = range_there (o ms) ms start c.in-Some.end (subst (λ (ns : List Member). AreAt (o ns) ns (Some (start, c.in-Some.end))) c.as_slice.ensures.value (rw c.in-Some.is at c.range_of_child.ensures)) in
    let p = child.0 in (
      look,
      subst (λ q. ChildLookedAt Up q false v look) (sym child.1)
          (subst (λ (m : Member). StateLookedAt (kept_at Up m.restart) m.state false v look) (first_is p ms start c.in-Some.end c.index.result.now child.2 c.index.ensures) c.if-member_stays.ensures.looked),
      subst (λ q. ChildEndedUnless false q look w) (sym child.1)
          (subst (λ (m : Member). MemberEnded (process_in m) look w) (first_is p ms start c.in-Some.end c.index-2.result.now child.2 c.index-2.ensures) c.end_member.ensures.ended),
    )

pub returns-clause-members : goal.returns-clause-members
returns-clause-members g c =
    let ms = c.args.members.now.items in
    let at = subst (λ (ns : List Member). AreAt (child_in c.args.«module».now c.args.id.now ns) ns (Some (c.in-Some.start, c.in-Some.end))) c.as_slice.ensures.value (rw c.in-Some.is at c.range_of_child.ensures) in
    gone_there (child_in c.args.«module».now c.args.id.now ms) ms c.in-Some.start c.in-Some.end c.take_out.new.members.items at c.take_out.ensures.others

use Rattle.std.proofs.Common.{◌+◌, ◌∙◌, ap, refl, sym}
use Rattle.started_members.specs.Places.{child_at}
use Rattle.started_members.proofs.PlaceLemmas.{behind_place, child_below}
use Rattle.started_members.proofs.places.place_of_child.Goals as goal

pub returns-then-is_supervisor-clause-there : goal.returns-then-is_supervisor-clause-there
returns-then-is_supervisor-clause-there c =
    child_below c.args.«module».now c.args.id.now c.args.members.now c.loop-i.i c.in_ok-below.below (c.loop-i.i + 1 + c.in_ok-below.below) c.index-members-i.result
    c.loop-i-test.true c.index-members-i.is (sym c.is_supervisor.ensures ∙ c.if-is_supervisor.true) (c.in_ok-below.ensures.there ∙ ap (λ d. child_at d c.args.id.now (behind_place c.loop-i.i c.args.members.now)) c.saturating_add.ensures) refl
    ∙ c.loop-i.invariant

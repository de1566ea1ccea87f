use Rattle.std.proofs.Common.{◌∙◌, ap, sym}
use Rattle.started_members.specs.Members.{supervises_in}
use Rattle.sup_tree.proofs.ChildLemmas.{super_here}
use Rattle.sup_tree.proofs.children.place_of_super.Goals as goal

pub returns-then-supervises_in : goal.returns-then-supervises_in
returns-then-supervises_in c =
    super_here c.args.«module».now c.args.apps.now c.loop-place.place c.index-apps-place.result c.loop-place-test.true c.index-apps-place.is
    (ap (supervises_in c.args.«module».now) (sym c.as_slice.ensures.value) ∙ (sym c.supervises_in.ensures ∙ c.if-supervises_in.true)) c.loop-place.invariant

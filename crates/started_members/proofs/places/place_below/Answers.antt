use Rattle.std.proofs.Common.{◌∙◌, ap, sym}
use Rattle.std.specs.Str.{bytes_eq}
use Rattle.started_members.proofs.PlaceLemmas.{child_here}
use Rattle.started_members.proofs.places.place_below.Goals as goal

pub returns-then-eq-clause-there : goal.returns-then-eq-clause-there
returns-then-eq-clause-there c =
    let m = c.index-members-i.result in
    child_here c.args.depth c.args.id.now c.args.members.now c.loop-i.i m c.loop-i-test.true c.index-members-i.is c.if-member-depth.false c.if-member-depth-2.true
    (ap (λ n. bytes_eq n c.args.id.now) (sym c.as_str.ensures) ∙ (sym c.eq.ensures ∙ c.if-eq.true))
    ∙ c.loop-i.invariant

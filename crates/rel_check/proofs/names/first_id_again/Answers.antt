use Rattle.std.proofs.Common.{◌≡◌, ◌+◌, ◌∷◌, map, drop, None, Some, sym, ap, ◌∙◌}
use Rattle.std.proofs.lemmas.List.{drop_more, drop_all}
use Rattle.rel_check.specs.InMemory.{part_of, named_of}
use Rattle.rel_check.specs.Names.{first_again, first_id_again, child_ids}
use Rattle.rel_check.proofs.PartRows.{id_here, id_later}
use Rattle.rel_check.proofs.names.first_id_again.Goals as goal

pub returns-in-Some : goal.returns-in-Some
returns-in-Some c =
    let parts = c.args.parts.now in
    let i = c.loop-part.part-index in
    let later = drop (i + 1) parts in
    let split : drop i parts ≡ c.part-item.result ∷ later = drop_more parts i c.part-item.result c.loop-part-test.true ∙ ap (λ p. p ∷ later) (sym c.part-item.is) in
    let here : Some (named_of c.in-Some.found) ≡ first_again (child_ids (part_of c.part-item.result)) =
    (rw c.in-Some.is at c.in_ok-found.ensures) ∙ ap first_again (ap (map named_of) c.as_slice.ensures.value ∙ c.in_ok-names.ensures) in
    id_here (map part_of (drop i parts)) (part_of c.part-item.result) (map part_of later) _ _ (ap (map part_of) split) here c.loop-part.invariant

pub loop-part-preserved : goal.loop-part-preserved
loop-part-preserved c =
    let parts = c.args.parts.now in
    let i = c.loop-part.part-index in
    let later = drop (i + 1) parts in
    let split : drop i parts ≡ c.part-item.result ∷ later = drop_more parts i c.part-item.result c.loop-part-test.true ∙ ap (λ p. p ∷ later) (sym c.part-item.is) in
    let none : None ≡ first_again (child_ids (part_of c.part-item.result)) =
    (rw c.in_default.is at c.in_ok-found.ensures) ∙ ap first_again (ap (map named_of) c.as_slice.ensures.value ∙ c.in_ok-names.ensures) in
    id_later (map part_of (drop i parts)) (part_of c.part-item.result) (map part_of later) _ (ap (map part_of) split) none c.loop-part.invariant

pub returns : goal.returns
returns c =
    let i = c.loop-part.part-index in
    ap first_id_again (ap (map part_of) (sym (drop_all i c.args.parts.now c.loop-part-test.false))) ∙ c.loop-part.invariant

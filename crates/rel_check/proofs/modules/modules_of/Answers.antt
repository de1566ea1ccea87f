use Rattle.std.proofs.Common.{◌≡◌, ◌+◌, ◌∷◌, map, drop, sym, ap, ◌∙◌}
use Rattle.std.proofs.lemmas.List.{drop_more, drop_all}
use Rattle.rel_check.specs.Modules.{modules_of}
use Rattle.rel_check.specs.InMemory.{part_of, module_of}
use Rattle.rel_check.proofs.PartRows.{adds_more, adds_all}
use Rattle.rel_check.proofs.modules.modules_of.Goals as goal

pub loop-part-preserved : goal.loop-part-preserved
loop-part-preserved c =
    let parts = c.args.parts.now in
    let i = c.loop-part.part-index in
    let later = drop (i + 1) parts in
    let split : drop i parts ≡ c.part-item.result ∷ later = drop_more parts i c.part-item.result c.loop-part-test.true ∙ ap (λ p. p ∷ later) (sym c.part-item.is) in
    adds_more modules_of (map part_of (drop i parts)) (part_of c.part-item.result) (map part_of later) (map module_of c.loop-part.found.items)
    (map module_of c.add_modules.new.found.items) _ (ap (map part_of) split) c.in_ok-add_modules.ensures c.loop-part.invariant

pub returns : goal.returns
returns c =
    let i = c.loop-part.part-index in
    adds_all modules_of (map part_of (drop i c.args.parts.now)) (map module_of c.loop-part.found.items) _
    (ap (map part_of) (drop_all i c.args.parts.now c.loop-part-test.false)) c.loop-part.invariant

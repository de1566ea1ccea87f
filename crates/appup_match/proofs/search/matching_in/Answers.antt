use Rattle.std.proofs.Common.{Some, ap, ◌∙◌}
use Rattle.appup_match.proofs.SearchLemmas.{past, comes_to}
use Rattle.appup_match.proofs.search.matching_in.Goals as goal

pub loop-place-preserved : goal.loop-place-preserved
loop-place-preserved c =
    past c.args.vsn.now c.args.entries.now c.loop-place.place c.index-entries-place.result c.loop-place-test.true c.index-entries-place.is
    (c.in-Ok-false.ensures.answer ∙ ap Some c.in-Ok-false.field-0-test) c.loop-place.invariant

pub returns-in-Err-Pattern-clause-refused : goal.returns-in-Err-Pattern-clause-refused
returns-in-Err-Pattern-clause-refused c =
    let e = c.in-Err-Pattern in
    rw e.field-0-is
    (comes_to e.fault c.args.vsn.now c.args.entries.now c.loop-place.place c.index-entries-place.result c.loop-place-test.true c.index-entries-place.is
    (rw e.field-0-is at e.ensures.refused) c.loop-place.invariant)

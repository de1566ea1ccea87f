use Rattle.std.proofs.Common.{arith, slice_index_or}
use Rattle.started_members.proofs.PlaceLemmas.{few_below, ranged}
use Rattle.started_members.proofs.places.range_of_child.Goals as goal

pub overflow_add-result-2 : goal.overflow_add-result-2
overflow_add-result-2 c =
    let start = c.in_ok-start.start in
    let ms = c.args.members.now in
    omega (arith, c.deeper_count-below.ensures, few_below (slice_index_or ms start c.index-members-start.result).depth start ms c.in_ok-start.ensures.inside)

pub returns : goal.returns
returns c =
    ranged c.args.members.now _ c.in_ok-start.start c.deeper_count-below.result c.index-members-start.result c.in_ok-start.ensures.inside c.in_ok-start.ensures.there
    c.deeper_count-below.ensures

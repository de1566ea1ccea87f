use Rattle.std.proofs.lemmas.Result.{IfOk-from_err}
use Rattle.node_listing.proofs.ListingLemmas.{line_more, whole_listing}
use Rattle.node_listing.proofs.release_listing.listing.Goals as goal

pub loop-listed-init : goal.loop-listed-init
loop-listed-init c = c.new-text.ensures.bytes

pub loop-listed-preserved : goal.loop-listed-preserved
loop-listed-preserved c =
    line_more c.releases-entries.result.now c.loop-listed.listed-index c.listed-item.result _ _
    c.loop-listed-test.true c.listed-item.is c.in_ok-push_line.ensures c.loop-listed.invariant

pub returns-in_err-push_line : goal.returns-in_err-push_line
returns-in_err-push_line c = IfOk-from_err c.from_residual.result _ c.from_residual.ensures.0

pub returns-in_err-push_count : goal.returns-in_err-push_count
returns-in_err-push_count c = IfOk-from_err c.from_residual-in_err-push_count.result _ c.from_residual-in_err-push_count.ensures.0

pub returns : goal.returns
returns c =
    whole_listing c.releases-entries.result.now c.loop-listed.listed-index c.len.result c.args.releases.now _ _
    c.loop-listed-test.false c.releases-entries.ensures.entries c.loop-listed.invariant c.len.ensures c.in_ok-push_count.ensures

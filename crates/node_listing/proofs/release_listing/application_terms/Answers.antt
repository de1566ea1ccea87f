use Rattle.std.proofs.Common.{map, ap, ◌∙◌}
use Rattle.std.proofs.lemmas.List.{take_all}
use Rattle.std.proofs.lemmas.Result.{IfOk-from_err}
use Rattle.erl_term.specs.Value.{value_of}
use Rattle.rel_files.specs.Release.{application_of}
use Rattle.node_listing.specs.Listing.{application_value}
use Rattle.node_listing.proofs.ListingLemmas.{application_more}
use Rattle.node_listing.proofs.release_listing.application_terms.Goals as goal

pub loop-application-init : goal.loop-application-init
loop-application-init c = ap (map value_of) c.new-terms.ensures.items

pub loop-application-preserved : goal.loop-application-preserved
loop-application-preserved c =
    application_more c.args.applications.now c.loop-application.application-index c.application-item.result c.loop-application.terms.items c.push.new.self.items c.in_ok-application_term.field-0
    c.loop-application-test.true c.application-item.is c.in_ok-application_term.ensures c.in_ok-push.ensures.items c.loop-application.invariant

pub returns-in_err-application_term : goal.returns-in_err-application_term
returns-in_err-application_term c = IfOk-from_err c.from_residual.result _ c.from_residual.ensures.0

pub returns-in_err-push : goal.returns-in_err-push
returns-in_err-push c = IfOk-from_err c.from_residual-in_err-push.result _ c.from_residual-in_err-push.ensures.0

pub returns : goal.returns
returns c =
    c.loop-application.invariant ∙ ap (map (λ a. application_value (application_of a))) (take_all _ c.args.applications.now c.loop-application-test.false)

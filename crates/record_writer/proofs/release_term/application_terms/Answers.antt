use Rattle.std.proofs.Common.{◌∙◌, sym}
use Rattle.std.proofs.lemmas.Simd.{map-map}
use Rattle.erl_term.specs.Value.{value_of}
use Rattle.rel_files.proofs.Rows.{made_more, made_all}
use Rattle.rel_files.specs.Release.{application_of}
use Rattle.rel_records.specs.ReleaseTerm.{application_term}
use Rattle.record_writer.proofs.release_term.application_terms.Goals as goal

pub loop-app-preserved : goal.loop-app-preserved
loop-app-preserved c =
    made_more (λ a. application_term (application_of a)) value_of c.args.apps.now c.loop-app.app-index c.app-item.result c.loop-app.terms.items c.push.new.self.items _
    c.loop-app-test.true c.app-item.is c.in_ok-application_term.ensures c.in_ok-push.ensures.items c.loop-app.invariant

pub returns : goal.returns
returns c =
    made_all (λ a. application_term (application_of a)) value_of c.args.apps.now c.loop-app.app-index c.loop-app.terms.items c.loop-app-test.false c.loop-app.invariant
    ∙ sym (map-map application_term application_of c.args.apps.now)

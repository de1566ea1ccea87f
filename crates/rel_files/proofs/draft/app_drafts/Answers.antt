use Rattle.std.proofs.Common.{map, refl}
use Rattle.rel_files.specs.Sketch.{app_sketch_in, app_sketches_in}
use Rattle.rel_files.specs.Sketched.{app_sketch_of}
use Rattle.rel_files.proofs.Rows.{ReadsEach, row_more, row_none, row_all, viewed}
use Rattle.rel_files.proofs.draft.app_drafts.Goals as goal

each : ReadsEach app_sketch_in app_sketches_in
each = record { none = refl; more = λ v vs. refl }

pub loop-term-preserved : goal.loop-term-preserved
loop-term-preserved c =
    row_more app_sketch_in app_sketches_in each c.args.terms.now c.loop-term.term-index c.term-item.result (map app_sketch_of c.loop-term.apps.items)
    (map app_sketch_of c.push.new.self.items) (app_sketch_of c.in-Some.app) _ c.loop-term-test.true c.term-item.is (rw c.in-Some.is at c.in_ok-app.ensures)
    (viewed app_sketch_of _ _ c.in-Some.app c.in_ok-push.ensures.items) c.loop-term.invariant

pub returns : goal.returns
returns c =
    row_all app_sketch_in app_sketches_in each c.args.terms.now c.loop-term.term-index (map app_sketch_of c.loop-term.apps.items) c.loop-term-test.false c.loop-term.invariant

pub returns-in_default : goal.returns-in_default
returns-in_default c =
    row_none app_sketch_in app_sketches_in each c.args.terms.now c.loop-term.term-index c.term-item.result (map app_sketch_of c.loop-term.apps.items) _
    c.loop-term-test.true c.term-item.is (rw c.in_default.is at c.in_ok-app.ensures) c.loop-term.invariant

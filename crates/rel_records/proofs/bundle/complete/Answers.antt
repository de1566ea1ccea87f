use Rattle.std.proofs.Common.{map}
use Rattle.library.specs.InMemory.{shared_of}
use Rattle.rel_files.proofs.Rows.{viewed}
use Rattle.rel_records.proofs.CompletionLemmas.{completed_all, completed_more, completed_none}
use Rattle.rel_records.proofs.bundle.complete.Goals as goal

pub loop-app-preserved : goal.loop-app-preserved
loop-app-preserved c =
    let next = rw c.in-Some.is at c.in_ok-library.ensures in
    completed_more c.args.list.now c.args.apps.now c.loop-app.app-index c.app-item.result _ _ (shared_of c.in-Some.library) _ (map shared_of c.in-Some.left.now) _
    c.loop-app-test.true c.app-item.is next (viewed shared_of c.loop-app.libraries.items c.push.new.self.items c.in-Some.library c.in_ok-push.ensures.items) c.loop-app.invariant

-- an application has no library
pub returns-in_default : goal.returns-in_default
returns-in_default c =
    let none = rw c.in_default.is at c.in_ok-library.ensures in
    completed_none c.args.list.now c.args.apps.now c.loop-app.app-index c.app-item.result (map shared_of c.loop-app.libraries.items) (map shared_of c.loop-app.rest.now) _ c.loop-app-test.true c.app-item.is none c.loop-app.invariant

pub returns : goal.returns
returns c =
    completed_all (λ v. map shared_of v.items) shared_of c.args.list.now c.args.apps.now c.loop-app.app-index c.loop-app.libraries c.loop-app.rest.now _ _
    c.loop-app-test.false c.unless_left.ensures c.loop-app.invariant

use Rattle.std.proofs.Common.{arith}
use Rattle.std.specs.Vec.Iter.{into_iter_items}
use Rattle.rel_files.proofs.Versions.{apps-more, apps-none, apps-all}
use Rattle.rel_files.proofs.draft.rel_apps.Goals as goal

pub loop-draft-preserved : goal.loop-draft-preserved
loop-draft-preserved c =
    let stepped = rw c.in-Some.is at c.next.ensures.steps in
    apps-more (into_iter_items c.loop-draft.draft-iterator) (into_iter_items c.next.new.self) c.in-Some.draft c.loop-draft.apps.items c.push.new.self.items
    c.in-Some-app.app _ stepped.0 (rw c.in-Some-app.is at c.app.ensures) c.in_ok-push.ensures.items c.loop-draft.invariant

pub returns-in_default : goal.returns-in_default
returns-in_default c =
    let stepped = rw c.in-Some.is at c.next.ensures.steps in
    apps-none (into_iter_items c.loop-draft.draft-iterator) (into_iter_items c.next.new.self) c.in-Some.draft c.loop-draft.apps.items _ stepped.0
    (rw c.in_default.is at c.app.ensures) c.loop-draft.invariant

pub returns : goal.returns
returns c =
    let ended = rw c.in-None.is at c.next.ensures.steps in
    apps-all (into_iter_items c.loop-draft.draft-iterator) c.loop-draft.apps.items _ (omega (arith, ended.0, c.loop-draft.draft-iterator.rest.ok.0)) c.loop-draft.invariant

use Rattle.std.proofs.Common.{inl, inr, rules, Ok, refl, sym, subst}
use Rattle.rel_session.specs.InMemory.{ActsOrLacks, Answers}
use Rattle.rel_session.specs.Transition.{permanence}
use Rattle.rel_session.specs.Transition.Action.{changes_node}
use Rattle.rel_session.specs.declared.place.Place.TheVariants as memory
use Rattle.rel_session.specs.declared.unanswered.Unanswered.TheVariants as unanswered
use Rattle.rel_session.proofs.DeviceLemmas.{IsDevice}
use Rattle.rel_session.proofs.CommitReplies.{changes, changes_none}
use Rattle.rel_session.proofs.Replies.{reported_so, changes_no_memory}
use Rattle.rel_session.proofs.change.make_permanent.Goals as goal

pub returns-in-Err-clause-committed : goal.returns-in-Err-clause-committed
returns-in-Err-clause-committed g c =
    let laws : IsDevice g.D.Disk = record { reads_an_image = g.met.D.Disk.reads_an_image; counts_now = g.met.D.Disk.counts_now; only_now = g.met.D.Disk.only_now } in
    changes_none g.D.Disk laws (ActsOrLacks (changes_node (permanence c.args.vsn.now))) c.args.node.now c.requires.works (permanence c.args.vsn.now) (λ events extent ps a is. inl is) refl (record c.args.node.now { handler = c.make_permanent.new.self }) refl
    c.in-Err.ensures.commits (λ events extent ps. inr refl) c.in-Err.why c.in-Err.ensures.refused

-- memory was refused to the answer
pub returns-in_err-line-clause-committed : goal.returns-in_err-line-clause-committed
returns-in_err-line-clause-committed g c =
    let laws : IsDevice g.D.Disk = record { reads_an_image = g.met.D.Disk.reads_an_image; counts_now = g.met.D.Disk.counts_now; only_now = g.met.D.Disk.only_now } in
    let n = c.args.node.now in
    let Does = ActsOrLacks (changes_node (permanence c.args.vsn.now)) in
    subst (λ r. Answers g.D.Disk Does r (memory.Made n) (memory.Made n)) (sym (reported_so c.from_residual.result unanswered.NoMemory c.from_residual.ensures.1))
    (changes_no_memory g.D.Disk laws Does (memory.Made n))

pub returns-in-Ok-clause-committed : goal.returns-in-Ok-clause-committed
returns-in-Ok-clause-committed g c =
    let laws : IsDevice g.D.Disk = record { reads_an_image = g.met.D.Disk.reads_an_image; counts_now = g.met.D.Disk.counts_now; only_now = g.met.D.Disk.only_now } in
    changes g.D.Disk laws (ActsOrLacks (changes_node (permanence c.args.vsn.now))) c.args.node.now c.requires.works (permanence c.args.vsn.now) (λ events extent ps a is. inl is) refl (record c.args.node.now { handler = c.make_permanent.new.self }) refl
    c.in-Ok.ensures.commits c.in-Ok.ensures.dead c.in-Ok.ensures.done (Ok c.in_ok-line.line) (Ok c.in_ok-line.line) refl (search rules)

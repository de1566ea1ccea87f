use Rattle.std.proofs.Common.{[], ◌∷◌, ◌++◌, refl, ap, ◌∙◌}
use Rattle.proc_workers.specs.declared.hand.Hand.{Hand}
use Rattle.proc_workers.specs.declared.note.Note.{Note}
use Rattle.proc_workers.specs.Ends.{read_by, taken}
use Rattle.proc_workers.proofs.DeskLemmas.{none_reached, next_reached, ends_stopped}
use Rattle.proc_workers.proofs.worker.work.Goals as goal

pub loop-init : goal.loop-init
loop-init g c =
    let new = c.new-desk.ensures in
    ((tt, tt), ap (λ p. p.table) new.0 ∙ c.requires, refl, none_reached c.args.pid _ (taken c.args.inbox) _ (new.1 c.args.pid))

pub loop-preserved-in-Some-Job : goal.loop-preserved-in-Some-Job
loop-preserved-in-Some-Job g c =
    let at = c.loop.invariant in
    let same = c.make_room.ensures.same in
    let more = ap (λ (v : Hand). v.taken) c.in-Some-Job.ensures.taken ∙ ap (λ (n : Note). taken c.loop.inbox ++ n ∷ []) c.in-Some-Job.field-0-is in (
      (tt, tt),
      c.take_job.ensures.table ∙ (ap (λ p. p.table) same.0 ∙ at.1),
      c.in-Some-Job.ensures.mailbox ∙ at.2,
      next_reached c.args.pid _ _ _ _ _ _ _ _ at.3 same more c.take_job.ensures.took,
    )

pub loop-preserved-in-Some-Suspend : goal.loop-preserved-in-Some-Suspend
loop-preserved-in-Some-Suspend g c =
    let at = c.loop.invariant in
    let same = c.make_room.ensures.same in
    let more = ap (λ (v : Hand). v.taken) c.in-Some-Suspend.ensures.taken ∙ ap (λ (n : Note). taken c.loop.inbox ++ n ∷ []) c.in-Some-Suspend.field-0-is in (
      (tt, tt),
      c.suspend.ensures.table ∙ (ap (λ p. p.table) same.0 ∙ at.1),
      c.in-Some-Suspend.ensures.mailbox ∙ at.2,
      next_reached c.args.pid _ _ _ _ _ _ _ _ at.3 same more (c.suspend.ensures.took c.args.pid),
    )

pub loop-preserved : goal.loop-preserved
loop-preserved g c =
    let at = c.loop.invariant in
    let same = c.make_room.ensures.same in
    let more = ap (λ (v : Hand). v.taken) c.in-Some-Resume.ensures.taken ∙ ap (λ (n : Note). taken c.loop.inbox ++ n ∷ []) c.in-Some-Resume.field-0-is in (
      (tt, tt),
      c.resume.ensures.table ∙ (ap (λ p. p.table) same.0 ∙ at.1),
      c.in-Some-Resume.ensures.mailbox ∙ at.2,
      next_reached c.args.pid _ _ _ _ _ _ _ _ at.3 same more c.resume.ensures.took,
    )

pub returns-in-Some-Stop-clause-jobs : goal.returns-in-Some-Stop-clause-jobs
returns-in-Some-Stop-clause-jobs g c =
    let at = c.loop.invariant in
    let same = c.make_room.ensures.same in
    let r = c.end-in-Some-Stop.ensures in
    let more = ap (λ (v : Hand). v.taken) c.in-Some-Stop.ensures.taken ∙ ap (λ (n : Note). taken c.loop.inbox ++ n ∷ []) c.in-Some-Stop.field-0-is in
    ends_stopped c.args.pid _ c.args.inbox _ c.loop.desk _ at.3 (ap (λ i. read_by i) r.1 ∙ (c.in-Some-Stop.ensures.mailbox ∙ at.2)) (ap (λ i. taken i) r.1 ∙ more) (ap (λ v. v.items) r.2 ∙ same.1) (ap (λ v. v.items) r.3 ∙ same.2) r.4

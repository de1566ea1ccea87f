use Rattle.std.proofs.Common.{refl}
use Rattle.proc_workers.proofs.DeskLemmas.{keeps_job, does_job}
use Rattle.proc_workers.proofs.desk.Desk.take_job.Goals as goal

pub returns-then-self-clause-took : goal.returns-then-self-clause-took
returns-then-self-clause-took g c = keeps_job _ _ _ _ c.if-self.true refl refl c.push_reserved.ensures.items refl

pub returns-else-self-clause-took : goal.returns-else-self-clause-took
returns-else-self-clause-took g c =
    let a = c.answer.ensures.answered in
    let same = c.answer.ensures.rest in
    does_job _ _ _ _ a.0 c.if-self.false a.1 a.2 a.3 (λ k. (same.0 k).items) same.1

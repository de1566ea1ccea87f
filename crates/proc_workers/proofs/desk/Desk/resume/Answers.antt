use Rattle.std.proofs.Common.{◌≡◌, ◌<◌, false, refl, ap, sym, subst, ◌∙◌, length, get_or, arith}
use Rattle.proc_workers.specs.Desks.{HasResumed}
use Rattle.proc_workers.proofs.DeskLemmas.{resumes_none, resumes_more, room_left, takes_resume}
use Rattle.proc_workers.proofs.desk.Desk.resume.Goals as goal

pub answer-requires-clause-table : goal.answer-requires-clause-table
answer-requires-clause-table g c = c.loop-at.invariant.table ∙ c.requires.table

pub answer-requires-clause-room : goal.answer-requires-clause-room
answer-requires-clause-room g c =
    let d = c.args.self.now in
    let within : c.loop-at.at < length d.kept.items = omega (arith, c.loop-at-test.true, c.len-at-end.ensures, d.kept.ok.0) in
    room_left c.args.pid c.loop-at.at d c.loop-at.self within c.requires.room c.loop-at.invariant

pub loop-at-init : goal.loop-at-init
loop-at-init g c = resumes_none c.args.pid c.args.self.now

pub loop-at-preserved : goal.loop-at-preserved
loop-at-preserved g c =
    let d = c.args.self.now in
    let a = c.answer.ensures.answered in
    let rest = c.answer.ensures.rest in
    let within : c.loop-at.at < length d.kept.items = omega (arith, c.loop-at-test.true, c.len-at-end.ensures, d.kept.ok.0) in
    let job : get_or d.kept.items c.loop-at.at c.index-job.result.now ≡ c.index-job.result.now =
    sym (c.index-job.ensures ∙ ap (λ k. get_or k.items c.loop-at.at c.index-job.result.now) c.loop-at.invariant.kept) in
    resumes_more c.args.pid c.loop-at.at d c.loop-at.self c.answer.new.self c.index-job.result.now a.0 within job c.loop-at.invariant a.1 a.2 a.3 rest.0 c.answer.ensures.table rest.2

pub returns-clause-took : goal.returns-clause-took
returns-clause-took g c =
    let d = c.args.self.now in
    let all : c.loop-at.at ≡ length d.kept.items = omega (arith, c.loop-at-test.false, c.loop-at.auto.at-end, c.len-at-end.ensures, d.kept.ok.0) in
    takes_resume c.args.pid d c.loop-at.self (record c.loop-at.self { kept = c.clear.new.self; suspended = false }) (subst (λ n. HasResumed c.args.pid n d c.loop-at.self) all c.loop-at.invariant) refl refl
    c.clear.ensures.items refl

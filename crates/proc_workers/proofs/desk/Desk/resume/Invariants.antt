use Rattle.proc_workers.specs.Desks.{HasResumed}
use Rattle.proc_workers.proofs.desk.Desk.resume.Given as goal

-- of the jobs that were kept, those so far are answered
abbrev pub invariant-loop-at : goal.invariant-loop-at
invariant-loop-at g l = HasResumed l.pid l.at l.initial.self l.self

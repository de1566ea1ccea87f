use Rattle.std.proofs.Common.{◌≡◌}
use Rattle.proc_workers.specs.Counted.{HasCounted}
use Rattle.proc_workers.proofs.floods.answer_jobs.Given as goal

-- the answers so far are counted
abbrev pub invariant-loop : goal.invariant-loop
invariant-loop g l = (l.pass.table ≡ l.table) × HasCounted l.pid l.input l.counter l.fn.pass.view l.counts l.pass.view

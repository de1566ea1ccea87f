use Rattle.proc_workers.proofs.HandLemmas.{forks}
use Rattle.proc_workers.proofs.ends.Sender.second.Goals as goal

pub another-hand-requires-clause-rule : goal.another-hand-requires-clause-rule
another-hand-requires-clause-rule c = forks _ _

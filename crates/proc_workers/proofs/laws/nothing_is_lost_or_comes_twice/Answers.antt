use Rattle.proc_workers.proofs.HandLemmas.{nothing_is_lost}
use Rattle.proc_workers.proofs.laws.nothing_is_lost_or_comes_twice.Goals as goal

pub returns : goal.returns
returns c = nothing_is_lost

use Rattle.std.proofs.Common.{refl}
use Rattle.proc_workers.proofs.DeskLemmas.{takes_suspend}
use Rattle.proc_workers.proofs.desk.Desk.suspend.Goals as goal

pub returns-clause-took : goal.returns-clause-took
returns-clause-took c = λ pid. takes_suspend pid _ _ refl refl refl refl

use Rattle.held_processes.proofs.SlotLemmas.{released_longer}
use Rattle.held_processes.proofs.held_process.HeldProcess.let_go.Goals as goal

pub returns-clause-longer : goal.returns-clause-longer
returns-clause-longer g c = released_longer _ _ _ _ c.let_go.ensures.released

use Rattle.started_members.proofs.KeepLemmas.{keeps_processes}
use Rattle.started_members.proofs.laws.a_change_of_children_keeps_the_processes.Goals as goal

pub returns : goal.returns
returns c = keeps_processes

use Rattle.runtime_change.proofs.LawLemmas.{begins_anew}
use Rattle.runtime_change.proofs.laws.an_upgrade_to_another_runtime_system_begins_with_its_restart.Goals as goal

pub returns : goal.returns
returns c = begins_anew

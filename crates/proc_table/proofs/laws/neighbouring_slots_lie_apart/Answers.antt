use Rattle.proc_table.proofs.PlaceLemmas.{slots_lie_apart}
use Rattle.proc_table.proofs.laws.neighbouring_slots_lie_apart.Goals as goal

pub returns : goal.returns
returns c = slots_lie_apart

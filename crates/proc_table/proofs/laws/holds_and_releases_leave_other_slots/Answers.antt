use Rattle.proc_table.proofs.WaitLemmas.{since, elsewhere_left}
use Rattle.proc_table.proofs.laws.holds_and_releases_leave_other_slots.Goals as goal

pub returns : goal.returns
returns c = (since, elsewhere_left)

use Rattle.proc_table.proofs.ApartLemmas.{calls_stand_apart}
use Rattle.proc_table.proofs.laws.no_call_is_answered_while_held.Goals as goal

pub returns : goal.returns
returns c = calls_stand_apart

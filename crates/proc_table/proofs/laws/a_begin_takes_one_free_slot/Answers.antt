use Rattle.proc_table.proofs.CountLemmas.{begins_take_one}
use Rattle.proc_table.proofs.laws.a_begin_takes_one_free_slot.Goals as goal

pub returns : goal.returns
returns c = begins_take_one

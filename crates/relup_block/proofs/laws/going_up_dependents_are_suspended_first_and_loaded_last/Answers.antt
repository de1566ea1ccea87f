use Rattle.relup_block.proofs.BlockLemmas.{orders_up}
use Rattle.relup_block.proofs.laws.going_up_dependents_are_suspended_first_and_loaded_last.Goals as goal

pub returns : goal.returns
returns c = orders_up

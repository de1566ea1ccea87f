use Rattle.relup_block.proofs.BlockLemmas.{orders_down}
use Rattle.relup_block.proofs.laws.going_down_dependents_are_suspended_last_and_loaded_first.Goals as goal

pub returns : goal.returns
returns c = orders_down

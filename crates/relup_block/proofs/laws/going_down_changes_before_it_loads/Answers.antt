use Rattle.relup_block.proofs.BlockLemmas.{changes_before_load}
use Rattle.relup_block.proofs.laws.going_down_changes_before_it_loads.Goals as goal

pub returns : goal.returns
returns c = changes_before_load

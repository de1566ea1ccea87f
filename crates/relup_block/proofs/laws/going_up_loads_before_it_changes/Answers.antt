use Rattle.relup_block.proofs.BlockLemmas.{loads_before_change}
use Rattle.relup_block.proofs.laws.going_up_loads_before_it_changes.Goals as goal

pub returns : goal.returns
returns c = loads_before_change

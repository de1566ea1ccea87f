use Rattle.relup_block.proofs.BlockLemmas.{suspends_meanwhile}
use Rattle.relup_block.proofs.laws.all_updates_are_suspended_meanwhile.Goals as goal

pub returns : goal.returns
returns c = suspends_meanwhile

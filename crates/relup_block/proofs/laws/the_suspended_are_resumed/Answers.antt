use Rattle.relup_block.proofs.BlockLemmas.{resumes_suspended}
use Rattle.relup_block.proofs.laws.the_suspended_are_resumed.Goals as goal

pub returns : goal.returns
returns c = resumes_suspended

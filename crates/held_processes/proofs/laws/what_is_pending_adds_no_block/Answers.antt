use Rattle.held_processes.proofs.CourseLemmas.{pending_adds_no_block}
use Rattle.held_processes.proofs.laws.what_is_pending_adds_no_block.Goals as goal

pub returns : goal.returns
returns c = pending_adds_no_block

use Rattle.held_processes.proofs.CourseLemmas.{blocks_alone}
use Rattle.held_processes.proofs.laws.a_handler_alone_sees_its_blocks.Goals as goal

pub returns : goal.returns
returns c = blocks_alone

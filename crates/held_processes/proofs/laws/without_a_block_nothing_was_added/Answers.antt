use Rattle.held_processes.proofs.CourseLemmas.{no_block_is_nothing}
use Rattle.held_processes.proofs.laws.without_a_block_nothing_was_added.Goals as goal

pub returns : goal.returns
returns c = no_block_is_nothing

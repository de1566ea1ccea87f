use Rattle.held_processes.proofs.CourseLemmas.{no_block_is_nothing}
use Rattle.relup_exec.proofs.armed.Armed.roll_back.Goals as goal

pub returns-clause-untouched : goal.returns-clause-untouched
returns-clause-untouched c = λ first back.
    no_block_is_nothing first back.0 c.roll_back_with.new.seat.view (c.roll_back_with.ensures.left first back.0 back.1) (λ p _. back.2 p)

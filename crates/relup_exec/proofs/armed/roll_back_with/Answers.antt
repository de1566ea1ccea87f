use Rattle.std.proofs.Common.{rules}
use Rattle.held_processes.specs.Following.{AreLeft}
use Rattle.relup_exec.proofs.armed.roll_back_with.Goals as goal

pub returns-clause-left : goal.returns-clause-left
returns-clause-left c = λ first courses follow.
    let left : AreLeft first courses c.roll_back_at.result.now.view = c.roll_back_at.ensures.left first courses follow in
    search rules

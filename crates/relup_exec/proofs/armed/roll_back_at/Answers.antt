use Rattle.std.proofs.Common.{subst, sym}
use Rattle.held_processes.specs.Following.{AllFollow, AreLeft}
use Rattle.relup_exec.proofs.armed.roll_back_at.Goals as goal

pub returns-clause-left : goal.returns-clause-left
returns-clause-left g c = λ first courses follow.
    subst (AreLeft first courses) (sym c.into_seat.ensures.view)
    (c.roll_back.ensures.left first courses (subst (AllFollow first courses c.args.progress.held) (sym c.new-access.ensures) follow))

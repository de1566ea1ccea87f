use Rattle.std.proofs.Common.{◌≡◌, ◌∙◌, [], List, ℕ, true, subst, sym}
use Rattle.std.specs.Prelude.{OnErr}
use Rattle.held_processes.specs.Course.Operation.{suspend}
use Rattle.held_processes.specs.Operations.{IsDone, has_free_user, modules_by_slot}
use Rattle.relup_exec.proofs.StepLemmas.{suspended_at}
use Rattle.relup_exec.proofs.suspend.hold_next.Goals as goal

pub returns-clause-done : goal.returns-clause-done
returns-clause-done g c =
    subst (λ (m : List ℕ). IsDone g.followed.first (modules_by_slot c.args.tree.now) m suspend g.followed.courses c.suspend.result c.suspend.new.self c.suspend.new.access)
    (c.as_str-module.ensures.value ∙ sym (suspended_at c.args.suspensions.now c.args.at c.index-suspensions-at.result c.requires.1.1.0 c.index-suspensions-at.is)) c.suspend.ensures.done

pub returns-clause-asks : goal.returns-clause-asks
returns-clause-asks g c =
    subst (λ (m : List ℕ). OnErr c.suspend.result (has_free_user (modules_by_slot c.args.tree.now) m g.followed.courses ≡ true))
    (c.as_str-module.ensures.value ∙ sym (suspended_at c.args.suspensions.now c.args.at c.index-suspensions-at.result c.requires.1.1.0 c.index-suspensions-at.is)) c.suspend.ensures.asks

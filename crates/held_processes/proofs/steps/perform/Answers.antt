use Rattle.std.proofs.Common.{◌≡◌, true, OnErr, sym, subst}
use Rattle.held_processes.specs.declared.steps.Step.{Step}
use Rattle.held_processes.specs.InMemory.{takes_memory}
use Rattle.held_processes.proofs.steps.perform.Goals as goal

pub returns-in-Suspend-clause-failed : goal.returns-in-Suspend-clause-failed
returns-in-Suspend-clause-failed g c =
    subst (λ (step : Step). OnErr c.suspend.result (takes_memory step g.past.course.hold ≡ true)) (sym c.in-Suspend.is) c.suspend.ensures.free

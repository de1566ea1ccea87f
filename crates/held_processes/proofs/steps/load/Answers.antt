use Rattle.std.proofs.Common.{Some, ap, sym, subst, ◌∙◌}
use Rattle.proc_history.specs.Events.Event.{loaded}
use Rattle.held_processes.specs.Course.Hold.{until_point}
use Rattle.held_processes.specs.Following.{HeldForm}
use Rattle.held_processes.specs.Slots.{Steps, taken}
use Rattle.held_processes.proofs.SlotLemmas.{has_table, held_adds, kept}
use Rattle.held_processes.proofs.steps.load.Goals as goal

pub returns-in-Some-clause-done : goal.returns-in-Some-clause-done
returns-in-Some-clause-done g c =
    held_adds g.past c.args.pid.slot c.args.access.now c.args.place.now _ c.load.new.self (loaded c.args.worker.now) _ c.requires.1.1 (c.in-Some.is ∙ ap Some (sym c.process.view_is)) (λ k. k) tt
    (has_table _ _ c.in_ok-copy.copy _ c.load.ensures c.in_ok-copy.ensures)

pub returns-in_ok-process-in-None-clause-done : goal.returns-in_ok-process-in-None-clause-done
returns-in_ok-process-in-None-clause-done g c =
    let taken_now = subst (λ (h : HeldForm). Steps g.past c.args.pid.slot (taken until_point g.past.course) c.args.access.now (Some h) c.take.new.access) (sym c.process-in-None.view_is)
    c.in_ok-process-in-None.ensures.taken in
    rw c.put.ensures (kept g.past c.args.pid.slot c.args.access.now c.args.place.now _ c.load-in-None.new.self c.take.new.access c.args.worker.now c.args.keep _ c.requires.1.1 c.in-None.is taken_now
    (has_table _ _ c.in_ok-copy.copy _ c.load-in-None.ensures c.in_ok-copy.ensures) c.if-keep.true)

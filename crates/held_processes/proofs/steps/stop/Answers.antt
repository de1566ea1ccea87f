use Rattle.std.proofs.Common.{Some, ap, sym, ◌∙◌}
use Rattle.proc_history.specs.Events.Event.{stopped}
use Rattle.held_processes.proofs.SlotLemmas.{one_event, alone, alone_longer, held_adds}
use Rattle.held_processes.proofs.steps.stop.Goals as goal

pub let_go-requires : goal.let_go-requires
let_go-requires g c κs within = (within, one_event c.args.pid.slot c.args.access.now c.hold-held.result c.stop-in-None.new.self c.hold-held.new.self stopped c.hold-held.ensures.held (λ k. k) tt c.stop-in-None.ensures)

pub returns-in-Some-clause-done : goal.returns-in-Some-clause-done
returns-in-Some-clause-done g c =
    held_adds g.past c.args.pid.slot c.args.access.now c.args.place.now _ c.stop.new.self stopped _ c.requires.1.1 (c.in-Some.is ∙ ap Some (sym c.process.view_is)) (λ k. k) tt c.stop.ensures

pub returns-in-None-clause-done : goal.returns-in-None-clause-done
returns-in-None-clause-done g c =
    rw c.in-None.is (alone g.past c.args.pid.slot c.args.access.now c.args.place.now c.hold-held.result c.stop-in-None.new.self c.hold-held.new.self _ stopped _ c.requires.1.1 c.in-None.is
    c.hold-held.ensures.held (λ k. k) tt c.stop-in-None.ensures c.let_go.ensures.released)

pub returns-in-None-clause-longer : goal.returns-in-None-clause-longer
returns-in-None-clause-longer g c = alone_longer _ _ _ _ _ _ _ c.hold-held.ensures.held c.let_go.ensures.released

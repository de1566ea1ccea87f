use Rattle.proc_history.specs.Events.Event.{loaded}
use Rattle.held_processes.proofs.SlotLemmas.{alone_longer, has_table, one_event, let_go_alone}
use Rattle.held_processes.proofs.steps.load_alone.Goals as goal

pub release-requires-clause-legal : goal.release-requires-clause-legal
release-requires-clause-legal g c =
    (one_event c.args.pid.slot c.args.access.now c.hold-held.result c.load.new.self c.hold-held.new.self (loaded c.args.worker.now) c.hold-held.ensures.held (λ k. k) tt
    (has_table _ _ _ _ c.load.ensures c.requires.1.1.1)).1.1.0

pub release-requires-clause-value : goal.release-requires-clause-value
release-requires-clause-value g c =
    (one_event c.args.pid.slot c.args.access.now c.hold-held.result c.load.new.self c.hold-held.new.self (loaded c.args.worker.now) c.hold-held.ensures.held (λ k. k) tt
    (has_table _ _ _ _ c.load.ensures c.requires.1.1.1)).1.1.1

pub returns-clause-done : goal.returns-clause-done
returns-clause-done g c =
    let_go_alone g.past c.args.pid.slot c.args.access.now c.hold-held.result c.load.new.self c.hold-held.new.self _ (loaded c.args.worker.now) c.requires.1.1.0
    c.hold-held.ensures.held (λ k. k) tt (has_table _ _ _ _ c.load.ensures c.requires.1.1.1) c.release.ensures.released

pub returns-clause-longer : goal.returns-clause-longer
returns-clause-longer g c = alone_longer _ _ _ _ _ _ _ c.hold-held.ensures.held c.release.ensures.released

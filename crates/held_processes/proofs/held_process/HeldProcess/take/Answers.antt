use Rattle.std.proofs.Common.{◌≡◌, ◌∙◌, [], subst}
use Rattle.proc_table.specs.Holds.{Released}
use Rattle.held_processes.specs.declared.held_process.Hold.{Hold}
use Rattle.held_processes.specs.declared.held_process.Hold.TheVariants.{UntilPoint, UntilResumed}
use Rattle.held_processes.specs.Course.Hold.{not_held}
use Rattle.held_processes.specs.InMemory.{hold_of}
use Rattle.held_processes.proofs.SlotLemmas.{alone_longer, gives_back, taken_longer, takes}
use Rattle.held_processes.proofs.held_process.HeldProcess.take.Goals as goal

is_held : (k : Hold) → (hold_of k ≡ not_held) → ⊥
is_held UntilPoint e = cc
is_held UntilResumed e = cc

pub returns-in-Ok-clause-taken : goal.returns-in-Ok-clause-taken
returns-in-Ok-clause-taken g c =
    takes g.past c.args.pid.slot (hold_of c.args.hold) c.args.access.now c.hold-held.result c.hold-held.new.self c.in-Ok.saved (is_held c.args.hold) c.requires.1.1
    c.hold-held.ensures.held (c.in-Ok.ensures ∙ c.value.ensures)

pub returns-in-Err-clause-taken : goal.returns-in-Err-clause-taken
returns-in-Err-clause-taken g c =
    let at = c.hold-held.ensures.held in
    gives_back g.past c.args.pid.slot c.args.access.now c.hold-held.result c.hold-held.new.self c.release.new.self c.requires.1.1 at
    (subst (λ p. Released p [] c.hold-held.new.self c.release.new.self) at.held.slot c.release.ensures.released)

pub returns-in-Ok-clause-longer : goal.returns-in-Ok-clause-longer
returns-in-Ok-clause-longer g c = taken_longer _ _ _ _ c.hold-held.ensures.held

pub returns-in-Err-clause-longer : goal.returns-in-Err-clause-longer
returns-in-Err-clause-longer g c = alone_longer _ _ _ _ _ _ _ c.hold-held.ensures.held c.release.ensures.released

use Rattle.std.proofs.Common.{◌∙◌, [], Option, is_some, ap, sym, subst}
use Rattle.proc_history.specs.declared.value.Value.{Value}
use Rattle.proc_history.specs.Values.{up_at}
use Rattle.proc_table.specs.Holds.{Released}
use Rattle.held_processes.specs.Following.{HeldForm, IsHeld}
use Rattle.held_processes.specs.Slots.{IsFollowed, Steps}
use Rattle.held_processes.proofs.ChangeLemmas.{held_value}
use Rattle.held_processes.proofs.SlotLemmas.{alone_longer, gives_back, looked_value}
use Rattle.held_processes.proofs.TakenLemmas.{held_taken}
use Rattle.held_processes.proofs.steps.is_up.Goals as goal

pub returns-in-Some-clause-reported : goal.returns-in-Some-clause-reported
returns-in-Some-clause-reported g c =
    let f = subst (λ (h : Option HeldForm). IsFollowed g.past c.args.pid.slot g.past.course c.args.access.now h) c.in-Some.is c.requires.1.1 in
    let held : IsHeld c.args.pid.slot g.past.course _ c.in-Some.process = f.follows.at in
    c.is_up_in.ensures ∙ (ap (λ (x : Value). is_some (up_at x.now)) c.value.ensures ∙ (ap (λ (h : HeldForm). is_some (up_at h.held.value.now)) c.process.view_is ∙ ap (λ (x : Value). is_some (up_at x.now)) (held_value c.args.pid.slot g.past.course _ c.in-Some.process held)))

pub returns-in-None-clause-followed : goal.returns-in-None-clause-followed
returns-in-None-clause-followed g c =
    let at = c.hold-held.ensures.held in
    let free = subst (λ (h : Option HeldForm). IsFollowed g.past c.args.pid.slot g.past.course c.args.access.now h) c.in-None.is c.requires.1.1 in
    subst (λ (h : Option HeldForm). Steps g.past c.args.pid.slot g.past.course c.args.access.now h c.release.new.self) (sym c.in-None.is)
    (gives_back g.past c.args.pid.slot c.args.access.now c.hold-held.result c.hold-held.new.self c.release.new.self free at
    (subst (λ p. Released p [] c.hold-held.new.self c.release.new.self) at.held.slot c.release.ensures.released))

pub returns-in-None-clause-reported : goal.returns-in-None-clause-reported
returns-in-None-clause-reported g c =
    let at = c.hold-held.ensures.held in
    let free = subst (λ (h : Option HeldForm). IsFollowed g.past c.args.pid.slot g.past.course c.args.access.now h) c.in-None.is c.requires.1.1 in
    let looked = looked_value g.past c.args.pid.slot c.args.access.now c.hold-held.result c.hold-held.new.self c.release.new.self free at
    (subst (λ p. Released p [] c.hold-held.new.self c.release.new.self) at.held.slot c.release.ensures.released) in
    c.is_up_in-up.ensures ∙ (ap (λ (x : Value). is_some (up_at x.now)) c.value-in-None.ensures ∙ ap (λ (x : Value). is_some (up_at x.now)) looked)

pub returns-in-None-clause-longer : goal.returns-in-None-clause-longer
returns-in-None-clause-longer g c = alone_longer _ _ _ _ _ _ _ c.hold-held.ensures.held c.release.ensures.released

pub returns-in-Some-clause-looked : goal.returns-in-Some-clause-looked
returns-in-Some-clause-looked g c =
    let f = subst (λ (h : Option HeldForm). IsFollowed g.past c.args.pid.slot g.past.course c.args.access.now h) c.in-Some.is c.requires.1.1 in
    let held : IsHeld c.args.pid.slot g.past.course _ c.in-Some.process = f.follows.at in
    λ free. absurd (held.really free)

pub returns-in-None-clause-looked : goal.returns-in-None-clause-looked
returns-in-None-clause-looked g c = λ free. held_taken _ _ _ _ _ _ _ c.hold-held.ensures.held c.release.ensures.released

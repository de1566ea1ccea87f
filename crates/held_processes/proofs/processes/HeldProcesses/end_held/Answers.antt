use Rattle.std.proofs.Common.{◌∙◌, ap, refl, sym}
use Rattle.std.specs.Option.{option_copied, option_map}
use Rattle.started_members.specs.declared.member.StartedProcess.{StartedProcess}
use Rattle.held_processes.specs.declared.children.HeldEnd.TheVariants.{Stays, GivenUp, NotHeld}
use Rattle.held_processes.specs.Children.{held_stays}
use Rattle.held_processes.specs.Operations.{values_seen}
use Rattle.held_processes.proofs.ChildLemmas.{ends_held, free_so, held_so}
use Rattle.held_processes.proofs.processes.HeldProcesses.end_held.Goals as goal

pub returns-in-Some-true-clause-ended : goal.returns-in-Some-true-clause-ended
returns-in-Some-true-clause-ended g c =
    let cs = g.followed.courses in
    let v = c.args.access.now in
    let q : StartedProcess = c.in-Some-process.process.now in
    let f = c.requires.1 in
    let so = held_so (cs q.pid.slot).hold c.in-Some-true.field-0 (held_stays c.kept_at.result q.pid (values_seen v) cs) (sym c.in-Some-true.is ∙ c.held_stays.ensures g.followed.first cs v f) in
    ends_held g.followed.first c.args.stay c.kept_at.result cs v Stays c.args.self.now v c.args.members.now c.in-Some.member.now q (sym c.first.ensures.value ∙ ap option_copied c.in-Some.is)
    (sym c.process.ensures ∙ ap (option_map (λ p. p.now)) c.in-Some-process.is) c.kept_at.ensures (sym so.1 ∙ c.in-Some-true.field-0-test, so.0, f, refl)

pub returns-in-Some-false-clause-ended : goal.returns-in-Some-false-clause-ended
returns-in-Some-false-clause-ended g c =
    let cs = g.followed.courses in
    let v = c.args.access.now in
    let q : StartedProcess = c.in-Some-process.process.now in
    let so = held_so (cs q.pid.slot).hold c.in-Some-false.field-0 (held_stays c.kept_at.result q.pid (values_seen v) cs) (sym c.in-Some-false.is ∙ c.held_stays.ensures g.followed.first cs v c.requires.1) in
    ends_held g.followed.first c.args.stay c.kept_at.result cs v GivenUp c.give_up_slot.new.self c.give_up_slot.new.access c.args.members.now c.in-Some.member.now q (sym c.first.ensures.value ∙ ap option_copied c.in-Some.is)
    (sym c.process.ensures ∙ ap (option_map (λ p. p.now)) c.in-Some-process.is) c.kept_at.ensures (sym so.1 ∙ c.in-Some-false.field-0-test, so.0, c.give_up_slot.ensures.done)

pub returns-in-None-clause-ended : goal.returns-in-None-clause-ended
returns-in-None-clause-ended g c =
    let cs = g.followed.courses in
    let v = c.args.access.now in
    let q : StartedProcess = c.in-Some-process.process.now in
    let f = c.requires.1 in
    ends_held g.followed.first c.args.stay c.kept_at.result cs v NotHeld c.args.self.now v c.args.members.now c.in-Some.member.now q (sym c.first.ensures.value ∙ ap option_copied c.in-Some.is)
    (sym c.process.ensures ∙ ap (option_map (λ p. p.now)) c.in-Some-process.is) c.kept_at.ensures
    (free_so (cs q.pid.slot).hold (held_stays c.kept_at.result q.pid (values_seen v) cs) (sym c.in-None.is ∙ c.held_stays.ensures g.followed.first cs v f), f, refl)

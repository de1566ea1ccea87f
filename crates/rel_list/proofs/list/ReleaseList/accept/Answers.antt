use Rattle.std.proofs.Common.{rules, ◌≡◌, None, false, refl}
use Rattle.rel_list.specs.Event.{event_of, waits_for_boot}
use Rattle.rel_list.specs.Refusal.{refusal}
use Rattle.rel_list.proofs.OwnRules.{own_of_refusal}
use Rattle.rel_list.proofs.list.ReleaseList.accept.Goals as goal

pub returns-in-Some-clause-unchanged : goal.returns-in-Some-clause-unchanged
returns-in-Some-clause-unchanged c = refl

pub returns-clause-accepted : goal.returns-clause-accepted
returns-clause-accepted c =
    let none : refusal (event_of c.args.event) c.args.self.now ≡ None = search rules in
    let free : waits_for_boot (event_of c.args.event) c.args.self.now ≡ false = (own_of_refusal (event_of c.args.event) c.args.self.now none).0 in
    rw free c.change.ensures.accepted

use Rattle.std.proofs.Common.{◌≡◌, ℕ, subst, sym, ap, ◌∙◌}
use Rattle.proc_table.specs.Events.{entry}
use Rattle.proc_table.specs.Events.Event.{given_up}
use Rattle.proc_table.specs.Holds.{Holding}
use Rattle.proc_table.specs.Views.{seen}
use Rattle.proc_table.proofs.Beginnings.{Adds, event_adds}
use Rattle.started_members.proofs.ends.end.Goals as goal

pub release-requires-clause-legal : goal.release-requires-clause-legal
release-requires-clause-legal g c =
    let held = c.hold-held.ensures.held.held in
    let is = c.give_up.ensures in
    let w = c.hold-held.new.self in
    let at : c.give_up.new.self.slot ≡ c.args.pid.slot = ap (λ (h : Holding). h.slot) is ∙ held.slot in
    (subst (λ (p : ℕ). Adds (seen w p) (entry 0 given_up) c.give_up.new.self.value) (sym at)
    (event_adds (seen w c.args.pid.slot) c.hold-held.result.value c.give_up.new.self.value (entry 0 given_up) held.looked.legal held.value (λ k. k) tt (ap (λ (h : Holding). h.value) is))).legal

pub release-requires-clause-value : goal.release-requires-clause-value
release-requires-clause-value g c =
    let held = c.hold-held.ensures.held.held in
    let is = c.give_up.ensures in
    let w = c.hold-held.new.self in
    let at : c.give_up.new.self.slot ≡ c.args.pid.slot = ap (λ (h : Holding). h.slot) is ∙ held.slot in
    (subst (λ (p : ℕ). Adds (seen w p) (entry 0 given_up) c.give_up.new.self.value) (sym at)
    (event_adds (seen w c.args.pid.slot) c.hold-held.result.value c.give_up.new.self.value (entry 0 given_up) held.looked.legal held.value (λ k. k) tt (ap (λ (h : Holding). h.value) is))).value

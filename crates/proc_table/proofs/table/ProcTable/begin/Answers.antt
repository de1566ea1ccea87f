use Rattle.std.proofs.Common.{◌≡◌, ℕ, [], ◌∷◌, refl, ap, subst, sym, ◌∙◌, append-nil}
use Rattle.proc_history.specs.declared.value.Value.{Value}
use Rattle.proc_history.specs.Events.{entry}
use Rattle.proc_history.specs.Events.Event.{begin}
use Rattle.proc_history.specs.Histories.{replay, IsLegal}
use Rattle.proc_history.specs.Releases.{begin_of}
use Rattle.proc_table.specs.Holds.{Released}
use Rattle.proc_table.specs.Views.{seen}
use Rattle.proc_history.proofs.Beginnings.{Adds, begin_adds}
use Rattle.proc_table.proofs.table.ProcTable.begin.Goals as goal

pub release-requires-clause-legal : goal.release-requires-clause-legal
release-requires-clause-legal g c =
    let held = c.hold-held.ensures.held.held in
    let b = c.in-Ok.ensures.value in
    let y = c.begin.new.self.value in
    let w = c.hold-held.new.seat.view in
    let at : c.begin.new.self.slot ≡ c.args.pid.slot = c.in-Ok.ensures.slot ∙ held.slot in
    (subst (λ (p : ℕ). Adds (seen w p) (entry 0 (begin_of y.round y.now)) y) (sym at)
    (begin_adds (seen w c.args.pid.slot) c.hold-held.result.value y c.args.begins c.in-Ok.round held.looked.legal held.value b.0 b.1 b.2)).legal

pub release-requires-clause-value : goal.release-requires-clause-value
release-requires-clause-value g c =
    let held = c.hold-held.ensures.held.held in
    let b = c.in-Ok.ensures.value in
    let y = c.begin.new.self.value in
    let w = c.hold-held.new.seat.view in
    let at : c.begin.new.self.slot ≡ c.args.pid.slot = c.in-Ok.ensures.slot ∙ held.slot in
    (subst (λ (p : ℕ). Adds (seen w p) (entry 0 (begin_of y.round y.now)) y) (sym at)
    (begin_adds (seen w c.args.pid.slot) c.hold-held.result.value y c.args.begins c.in-Ok.round held.looked.legal held.value b.0 b.1 b.2)).value

pub returns-in-Ok-clause-began : goal.returns-in-Ok-clause-began
returns-in-Ok-clause-began g c =
    let b = c.in-Ok.ensures.value in
    let v = c.hold-held.new.seat.view in
    let w = c.release.new.seat.view in
    let at : c.begin.new.self.slot ≡ c.args.pid.slot = c.in-Ok.ensures.slot ∙ c.hold-held.ensures.held.held.slot in
    let released = subst (λ (y : Value). Released c.begin.new.self.slot (entry 0 (begin_of y.round y.now) ∷ []) v w) b.2 c.release.ensures.released in (
      c.hold-held.result,
      v,
      c.hold-held.ensures.held,
      b.0,
      refl,
      b.1,
      subst (λ (p : ℕ). Released p (entry 0 (begin c.in-Ok.round c.args.begins) ∷ []) v w) at released,
    )

pub returns-in-Err-clause-began : goal.returns-in-Err-clause-began
returns-in-Err-clause-began g c =
    let b = c.in-Err.ensures.value in
    let v = c.hold-held.new.seat.view in
    let at : c.begin.new.self.slot ≡ c.args.pid.slot = c.in-Err.ensures.slot ∙ c.hold-held.ensures.held.held.slot in (
      c.hold-held.result,
      v,
      c.hold-held.ensures.held,
      b.0,
      b.2,
      subst (λ (p : ℕ). Released p [] v c.release-in-Err.new.seat.view) at c.release-in-Err.ensures.released,
    )

pub release-requires-in-Err-clause-legal : goal.release-requires-in-Err-clause-legal
release-requires-in-Err-clause-legal g c =
    let held = c.hold-held.ensures.held.held in
    let w = c.hold-held.new.seat.view in
    let at : c.begin.new.self.slot ≡ c.args.pid.slot = c.in-Err.ensures.slot ∙ held.slot in
    subst IsLegal (sym (append-nil (seen w c.begin.new.self.slot))) (subst (λ (p : ℕ). IsLegal (seen w p)) (sym at) held.looked.legal)

pub release-requires-in-Err-clause-value : goal.release-requires-in-Err-clause-value
release-requires-in-Err-clause-value g c =
    let held = c.hold-held.ensures.held.held in
    let w = c.hold-held.new.seat.view in
    let at : c.begin.new.self.slot ≡ c.args.pid.slot = c.in-Err.ensures.slot ∙ held.slot in
    c.in-Err.ensures.value.1 ∙ held.value ∙ ap (λ (p : ℕ). replay (seen w p)) (sym at)
    ∙ ap replay (sym (append-nil (seen w c.begin.new.self.slot)))

use Rattle.std.proofs.Common.{◌<◌, ◌≤◌, ◌&&◌, ◌∙◌, Bool, ap, ap₂, sym, arith, None, is_some, length, slice_index_or}
use Rattle.std.proofs.lemmas.List.{get_or_read_under}
use Rattle.proc_table.specs.Agrees.{slots}
use Rattle.held_processes.specs.Following.{HeldSlots}
use Rattle.held_processes.specs.Operations.{is_held_user, modules_by_slot}
use Rattle.held_processes.proofs.AnyLemmas.{any_found, any_none, not_both}
use Rattle.held_processes.proofs.ChangeLemmas.{taken_is_held}
use Rattle.held_processes.proofs.processes.HeldProcesses.holds.Goals as goal

pub returns-then-include : goal.returns-then-include
returns-then-include c = λ first cs v all.
    let users = modules_by_slot c.args.users.now.tree.now in
    let name = c.args.users.now.module.now in
    let slot = c.loop-slot.slot in
    let inside : slot < slots = omega (arith, c.loop-slot-test.true, c.len-slot-end.ensures, c.self.inside.places.ok.0, ap (λ (hs : HeldSlots). length hs) c.self.view_is, all.long) in
    let items = c.self.inside.places.items in
    let there = sym (ap (λ (hs : HeldSlots). slice_index_or hs slot None) c.self.view_is) ∙ sym (get_or_read_under items slot slots c.index.result.now None c.index.ensures inside (sym (ap (λ (hs : HeldSlots). length hs) c.self.view_is ∙ all.long))) in
    let held = sym (taken_is_held first.lent slot _ _ (cs slot) _ (all.each slot inside)) in
    sym (any_found (is_held_user users name cs) slots slot inside (ap₂ (λ (a b : Bool). a && b) (sym c.if-include.ensures) (held ∙ (ap is_some there ∙ sym c.if-is_some.ensures))))

pub returns : goal.returns
returns c = λ first cs v all.
    let users = modules_by_slot c.args.users.now.tree.now in
    let name = c.args.users.now.module.now in
    let far : slots ≤ c.loop-slot.slot = omega (arith, c.loop-slot-test.false, c.len-slot-end.ensures, c.self.inside.places.ok.0, ap (λ (hs : HeldSlots). length hs) c.self.view_is, all.long) in
    sym (any_none (is_held_user users name cs) slots
    (λ p inside. not_both _ _ (λ runs held. c.loop-slot.invariant p (omega (arith, inside, far)) (taken_is_held first.lent p _ _ (cs p) _ (all.each p inside) ∙ held) runs)))

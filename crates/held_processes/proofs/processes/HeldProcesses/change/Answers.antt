use Rattle.std.proofs.Common.{◌<◌, ◌≤◌, Bool, ◌&&◌, not, true, false, refl, ap₂, sym, subst, arith, None}
use Rattle.std.proofs.lemmas.List.{get_or_read_under}
use Rattle.erl_term.specs.Value.{value_of}
use Rattle.worker_table.specs.InMemory.{old_of}
use Rattle.proc_table.specs.Agrees.{slots}
use Rattle.held_processes.specs.Course.{on_module}
use Rattle.held_processes.specs.Course.Operation.{change}
use Rattle.held_processes.specs.Following.{AllFollow, HeldSlots}
use Rattle.held_processes.specs.Operations.{lacks_row_at, up_to, modules_by_slot, values_seen}
use Rattle.held_processes.specs.Slots.{Steps}
use Rattle.held_processes.proofs.AnyLemmas.{any_none, one_more}
use Rattle.held_processes.proofs.ChangeLemmas.{changes_at, changes_not, found_is, lacks_none}
use Rattle.held_processes.proofs.FollowLemmas.{past_of, at_slot, step_over, step_none, pass_over, none_reached, all_reached, on_user, on_other, up_to_here}
use Rattle.held_processes.proofs.processes.HeldProcesses.change.Goals as goal
use Rattle.held_processes.proofs.processes.HeldProcesses.change.Goals.{else-include-via-then-include+else-not-change, else-include-via-else-include}

pub loop-slot-init : goal.loop-slot-init
loop-slot-init c =
    let users = modules_by_slot c.args.users.now.tree.now in
    let op = change (old_of c.args.old.now) (value_of c.args.extra.now) in (
      c.len-slot-end.ensures,
      λ first cs v all. (none_reached first (on_module users c.args.users.now.module.now op cs) cs c.self.inside.places.items v (subst (λ (hs : HeldSlots). AllFollow first cs hs v) (sym c.self.view_is) all), λ p below. absurd (omega (arith, below))),
    )

pub loop-slot-preserved : goal.loop-slot-preserved
loop-slot-preserved c =
    let users = modules_by_slot c.args.users.now.tree.now in
    let name = c.args.users.now.module.now in
    let old = old_of c.args.old.now in
    let extra = value_of c.args.extra.now in
    let op = change old extra in
    let slot = c.loop-slot.slot in
    let hs = c.loop-slot.self-inside.places.items in
    let length_is = c.loop-slot.self-inside.places.ok.0 in
    elim c.else-include.branch [
      | else-include-via-then-include+else-not-change w ↦ rw w.self-inside-is (
        c.loop-slot.invariant.0,
        λ first cs v all. let now = (c.loop-slot.invariant.1 first cs v all).0 in
            let inside : slot < slots = omega (arith, c.loop-slot-test.true, c.loop-slot.invariant.0, length_is, now.long) in
            let here = at_slot first cs (up_to slot (on_module users name op cs) cs) hs v slot w.index_mut.result.now now inside (up_to_here slot (on_module users name op cs) cs)
            (get_or_read_under hs slot slots w.index_mut.result.now None w.index_mut.ensures.value inside (sym now.long)) in
            let user = sym w.if-include.ensures in
            let found = w.if-not-change.ensures in (
              step_over first (on_module users name op cs) cs hs v v slot w.change.new.place inside now
                  (subst (λ d. Steps (past_of first cs slot) slot d v w.change.new.place v) (on_user users name op cs slot user)
                  (changes_at (past_of first cs slot) slot v w.index_mut.result.now old extra true w.change.new.place here found refl)),
              one_more (lacks_row_at old extra (values_seen v) users name cs) slot (c.loop-slot.invariant.1 first cs v all).1
                  (found_is users name cs slot v (past_of first cs slot) w.index_mut.result.now old extra true w.change.new.place refl user here found),
            ),
      )
      | else-include-via-else-include w ↦ rw w.self-inside-is (
        c.loop-slot.invariant.0,
        λ first cs v all. (
          pass_over first (on_module users name op cs) cs hs v slot (on_other users name op cs slot (sym w.if-include.ensures)) (c.loop-slot.invariant.1 first cs v all).0,
          one_more (lacks_row_at old extra (values_seen v) users name cs) slot (c.loop-slot.invariant.1 first cs v all).1
              (lacks_none users name cs slot v old extra (sym w.if-include.ensures)),
        ),
      )
    ]

pub returns-then-not-change : goal.returns-then-not-change
returns-then-not-change c = λ first cs v all.
    let users = modules_by_slot c.args.users.now.tree.now in
    let name = c.args.users.now.module.now in
    let old = old_of c.args.old.now in
    let extra = value_of c.args.extra.now in
    let op = change old extra in
    let slot = c.loop-slot.slot in
    let hs = c.loop-slot.self-inside.places.items in
    let now = (c.loop-slot.invariant.1 first cs v all).0 in
    let inside : slot < slots = omega (arith, c.loop-slot-test.true, c.loop-slot.invariant.0, c.loop-slot.self-inside.places.ok.0, now.long) in
    let here = at_slot first cs (up_to slot (on_module users name op cs) cs) hs v slot c.index_mut.result.now now inside (up_to_here slot (on_module users name op cs) cs)
    (get_or_read_under hs slot slots c.index_mut.result.now None c.index_mut.ensures.value inside (sym now.long)) in
    let user = sym c.if-include.ensures in
    let lacks = c.if-not-change.ensures in (
      step_none first (on_module users name op cs) cs hs v v slot c.change.new.place inside now
          (changes_not (past_of first cs slot) slot v c.index_mut.result.now old extra false c.change.new.place here lacks refl),
      (
        inside,
        ap₂ (λ (a b : Bool). a && not b)
            (found_is users name cs slot v (past_of first cs slot) c.index_mut.result.now old extra false c.change.new.place refl user here lacks)
            (any_none (lacks_row_at old extra (values_seen v) users name cs) slot (c.loop-slot.invariant.1 first cs v all).1),
      ),
    )

pub returns : goal.returns
returns c = λ first cs v all.
    let now = (c.loop-slot.invariant.1 first cs v all).0 in
    let old = old_of c.args.old.now in
    let extra = value_of c.args.extra.now in
    let far : slots ≤ c.loop-slot.slot = omega (arith, c.loop-slot-test.false, c.loop-slot.invariant.0, c.loop-slot.self-inside.places.ok.0, now.long) in (
      all_reached first _ cs _ v c.loop-slot.slot far now,
      any_none (lacks_row_at old extra (values_seen v) (modules_by_slot c.args.users.now.tree.now) c.args.users.now.module.now cs) slots
          (λ p inside. (c.loop-slot.invariant.1 first cs v all).1 p (omega (arith, inside, far))),
    )

use Rattle.std.proofs.Common.{◌≡◌, ◌<◌, [], List, ℕ, true, length, map, slice_index_or, take, refl, sym, subst}
use Rattle.relup_instruction.specs.Instruction.{suspension_of}
use Rattle.script_progress.specs.Script.{on_each, suspended_in}
use Rattle.held_processes.specs.Course as course
use Rattle.held_processes.specs.Course.{Courses, on_module}
use Rattle.held_processes.specs.Following.{AllFollow}
use Rattle.held_processes.specs.Operations.{has_free_user, modules_by_slot, part_way}
use Rattle.held_processes.proofs.SlotLemmas.{longer_both, longer_still}
use Rattle.relup_exec.proofs.StepLemmas.{suspended_asks, suspended_at, suspended_more, suspended_within}
use Rattle.relup_exec.proofs.RowLemmas.{item_at}
use Rattle.relup_exec.proofs.suspend.hold_all.Goals as goal

pub loop-at-init : goal.loop-at-init
loop-at-init g c = (refl, longer_still c.args.access.now, c.requires.1.1)

pub hold_next-requires : goal.hold_next-requires
hold_next-requires g c κs live =
    let inside : c.loop-at.at < length c.args.suspensions.now = subst (λ n. c.loop-at.at < n) c.loop-at.invariant.0 c.loop-at-test.true in
    (live.0, (live.1, (inside, c.loop-at.invariant.2)))

pub returns-in-Err-clause-done : goal.returns-in-Err-clause-done
returns-in-Err-clause-done g c =
    let ss = c.args.suspensions.now in
    let at = c.loop-at.at in
    let users = modules_by_slot c.args.tree.now in
    let inside : at < length ss = subst (λ n. at < n) c.loop-at.invariant.0 c.loop-at-test.true in
    let item = item_at ss at inside in
    let named : slice_index_or (suspended_in (map suspension_of ss)) at [] ≡ (suspension_of item.0).name = suspended_at ss at item.0 inside item.1 in
    let before = on_each course.Operation.suspend (suspended_in (map suspension_of (take at ss))) users g.followed.courses in (
      refl,
      subst (λ (cs : Courses). AllFollow g.followed.first cs c.hold_next.new.held c.hold_next.new.access)
          (sym (suspended_within ss at item.0 c.in-Err.undone.slot users g.followed.courses inside item.1))
          (subst (λ (n : List ℕ). AllFollow g.followed.first (part_way c.in-Err.undone.slot users n course.Operation.suspend before) c.hold_next.new.held c.hold_next.new.access) named c.in-Err.ensures.done),
      suspended_asks ss at item.0 users g.followed.courses inside item.1
          (subst (λ (n : List ℕ). has_free_user users n before ≡ true) named c.in-Err.ensures.asks),
    )

pub returns-in-Err-clause-longer : goal.returns-in-Err-clause-longer
returns-in-Err-clause-longer g c = longer_both c.args.access.now c.loop-at.access c.hold_next.new.access c.loop-at.invariant.1 c.hold_next.ensures.longer

pub loop-at-preserved : goal.loop-at-preserved
loop-at-preserved g c =
    let ss = c.args.suspensions.now in
    let at = c.loop-at.at in
    let users = modules_by_slot c.args.tree.now in
    let inside : at < length ss = subst (λ n. at < n) c.loop-at.invariant.0 c.loop-at-test.true in
    let item = item_at ss at inside in
    let named : slice_index_or (suspended_in (map suspension_of ss)) at [] ≡ (suspension_of item.0).name = suspended_at ss at item.0 inside item.1 in
    let before = on_each course.Operation.suspend (suspended_in (map suspension_of (take at ss))) users g.followed.courses in (
      c.loop-at.invariant.0,
      longer_both c.args.access.now c.loop-at.access c.hold_next.new.access c.loop-at.invariant.1 c.hold_next.ensures.longer,
      subst (λ (cs : Courses). AllFollow g.followed.first cs c.hold_next.new.held c.hold_next.new.access)
          (sym (suspended_more ss at item.0 users g.followed.courses inside item.1))
          (subst (λ (n : List ℕ). AllFollow g.followed.first (on_module users n course.Operation.suspend before) c.hold_next.new.held c.hold_next.new.access) named c.in_default.ensures.done),
    )

use Rattle.std.proofs.Common.{◌<◌, sym, subst, ◌∙◌, arith, None}
use Rattle.std.proofs.lemmas.List.{get_or_read_under}
use Rattle.proc_table.specs.Agrees.{slots}
use Rattle.held_processes.specs.Course.{on_module}
use Rattle.held_processes.specs.Following.{AllFollow, HeldSlots}
use Rattle.held_processes.specs.InMemory.{operation_of}
use Rattle.held_processes.specs.Operations.{up_to, modules_by_slot}
use Rattle.held_processes.specs.Slots.{Steps}
use Rattle.held_processes.proofs.FollowLemmas.{past_of, at_slot, step_over, step_none, pass_over, none_reached, all_reached, on_user, on_other, up_to_here}
use Rattle.held_processes.proofs.SlotLemmas.{longer_both, longer_still}
use Rattle.held_processes.proofs.processes.HeldProcesses.perform.Goals as goal
use Rattle.held_processes.proofs.processes.HeldProcesses.perform.Goals.{then-include+in-Ok, else-include}

pub loop-slot-init : goal.loop-slot-init
loop-slot-init g c =
    let all : AllFollow g.followed.first g.followed.courses c.self.inside.places.items c.args.access.now =
    subst (λ (hs : HeldSlots). AllFollow g.followed.first g.followed.courses hs c.args.access.now) (sym c.self.view_is) c.requires.1.1 in (
      c.len-slot-end.ensures ∙ (c.self.inside.places.ok.0 ∙ all.long),
      none_reached g.followed.first _ g.followed.courses _ c.args.access.now all,
      longer_still c.args.access.now,
    )

pub perform-requires : goal.perform-requires
perform-requires g c κs lives =
    let all = c.loop-slot.invariant.1 in
    let inside = subst (λ n. c.loop-slot.slot < n) c.loop-slot.invariant.0 c.loop-slot-test.true in (
      lives.0,
      (
        lives.1,
        at_slot g.followed.first g.followed.courses (up_to c.loop-slot.slot (on_module (modules_by_slot c.args.users.now.tree.now) c.args.users.now.module.now (operation_of c.args.step) g.followed.courses) g.followed.courses) c.loop-slot.self-inside.places.items c.loop-slot.access c.loop-slot.slot c.index_mut.result.now all inside
            (up_to_here c.loop-slot.slot (on_module (modules_by_slot c.args.users.now.tree.now) c.args.users.now.module.now (operation_of c.args.step) g.followed.courses) g.followed.courses) (get_or_read_under _ c.loop-slot.slot slots _ None c.index_mut.ensures.value inside (sym all.long)),
      ),
    )

pub returns-in-Err-clause-done : goal.returns-in-Err-clause-done
returns-in-Err-clause-done g c =
    step_none g.followed.first _ g.followed.courses c.loop-slot.self-inside.places.items c.loop-slot.access c.perform.new.access c.loop-slot.slot c.perform.new.place
    (subst (λ n. c.loop-slot.slot < n) c.loop-slot.invariant.0 c.loop-slot-test.true) c.loop-slot.invariant.1 c.in-Err.ensures.done

pub returns-in-Err-clause-failed : goal.returns-in-Err-clause-failed
returns-in-Err-clause-failed g c = (
  subst (λ n. c.loop-slot.slot < n) c.loop-slot.invariant.0 c.loop-slot-test.true,
  sym c.include.ensures ∙ c.if-include.true,
  c.in-Err.ensures.failed,
)

pub loop-slot-preserved : goal.loop-slot-preserved
loop-slot-preserved g c =
    let users = modules_by_slot c.args.users.now.tree.now in
    let name = c.args.users.now.module.now in
    let op = operation_of c.args.step in
    let cs = g.followed.courses in
    let slot = c.loop-slot.slot in
    elim c.if-include.branch [
      | then-include+in-Ok w ↦ rw (w.self-inside-is, w.access-is) (
        c.loop-slot.invariant.0,
        step_over g.followed.first (on_module users name op cs) cs c.loop-slot.self-inside.places.items c.loop-slot.access w.perform.new.access slot w.perform.new.place
            (subst (λ n. slot < n) c.loop-slot.invariant.0 c.loop-slot-test.true) c.loop-slot.invariant.1
            (subst (λ d. Steps (past_of g.followed.first cs slot) slot d c.loop-slot.access w.perform.new.place w.perform.new.access) (on_user users name op cs slot (sym w.if-include.ensures))
            w.in-Ok.ensures.done),
        longer_both c.args.access.now c.loop-slot.access w.perform.new.access c.loop-slot.invariant.2 w.in-Ok.ensures.longer,
      )
      | else-include w ↦ rw (w.self-inside-is, w.access-is) (
        c.loop-slot.invariant.0,
        pass_over g.followed.first (on_module users name op cs) cs c.loop-slot.self-inside.places.items c.loop-slot.access slot (on_other users name op cs slot (sym w.if-include.ensures))
            c.loop-slot.invariant.1,
        c.loop-slot.invariant.2,
      )
    ]

pub returns-clause-done : goal.returns-clause-done
returns-clause-done g c =
    all_reached g.followed.first _ g.followed.courses _ c.loop-slot.access c.loop-slot.slot (omega (arith, c.loop-slot.invariant.0, c.loop-slot-test.false)) c.loop-slot.invariant.1

pub returns-in-Err-clause-longer : goal.returns-in-Err-clause-longer
returns-in-Err-clause-longer g c = longer_both c.args.access.now c.loop-slot.access c.perform.new.access c.loop-slot.invariant.2 c.in-Err.ensures.longer

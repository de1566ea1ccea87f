use Rattle.std.proofs.Common.{◌<◌, sym, subst, ◌∙◌, None}
use Rattle.std.proofs.lemmas.List.{get_or_read_under}
use Rattle.proc_table.specs.Agrees.{slots}
use Rattle.proc_table.specs.Parts.{part_of}
use Rattle.held_processes.specs.InMemory.{behind_release}
use Rattle.held_processes.specs.Operations.{up_to}
use Rattle.held_processes.specs.Slots.{Steps}
use Rattle.held_processes.proofs.FollowLemmas.{past_of, at_slot, step_over, pass_over, up_to_here}
use Rattle.held_processes.proofs.ReleaseLemmas.{is_let_go, is_kept}
use Rattle.held_processes.proofs.SlotLemmas.{longer_both}
use Rattle.held_processes.proofs.processes.HeldProcesses.release.Goals as goal
use Rattle.held_processes.proofs.processes.HeldProcesses.release.Goals.{then-includes, else-includes}

pub loop-slot-preserved : goal.loop-slot-preserved
loop-slot-preserved g c =
    let first = g.followed.first in
    let cs = g.followed.courses in
    let which = c.args.which in
    let ds = behind_release which cs in
    let slot = c.loop-slot.slot in
    let hs = c.loop-slot.self-inside.places.items in
    let v = c.loop-slot.access in
    let all = c.loop-slot.invariant.1 in
    let inside = subst (λ n. slot < n) c.loop-slot.invariant.0 c.loop-slot-test.true in
    let here = at_slot first cs (up_to slot ds cs) hs v slot c.index.result.now all inside (up_to_here slot ds cs)
    (get_or_read_under hs slot slots c.index.result.now None c.index.ensures inside (sym all.long)) in
    elim c.if-includes.branch [
      | then-includes w ↦ rw (w.self-inside-is, w.access-is) (
        c.loop-slot.invariant.0,
        step_over first ds cs hs v w.let_go.new.access slot w.let_go.new.place inside all
            (subst (λ d. Steps (past_of first cs slot) slot d v w.let_go.new.place w.let_go.new.access)
            (is_let_go which cs first.lent slot (part_of first.parts slot) (part_of v.parts slot) c.index.result.now here.follows (sym c.includes.ensures ∙ w.if-includes.true)) w.let_go.ensures.done),
        longer_both c.args.access.now v w.let_go.new.access c.loop-slot.invariant.2 w.let_go.ensures.longer,
      )
      | else-includes w ↦ rw (w.self-inside-is, w.access-is) (
        c.loop-slot.invariant.0,
        pass_over first ds cs hs v slot
            (is_kept which cs first.lent slot (part_of first.parts slot) (part_of v.parts slot) c.index.result.now here.follows (sym c.includes.ensures ∙ w.if-includes.false)) all,
        c.loop-slot.invariant.2,
      )
    ]

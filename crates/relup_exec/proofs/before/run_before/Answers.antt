use Rattle.std.proofs.Common.{◌∙◌, [], true, List, ℕ, take, ap, sym, subst, subst₂, refl, arith}
use Rattle.std.proofs.lemmas.List.{length-map}
use Rattle.std.specs.Prelude.{vec_capacity}
use Rattle.std.specs.List.{AllByRecursion}
use Rattle.relup_instruction.specs.Instruction.{instruction_of, script_of}
use Rattle.script_progress.specs.InMemory.{cause_of}
use Rattle.script_progress.specs.Fault.{Cause}
use Rattle.relup_exec.specs.Sites.{site_in, start_in, view_in}
use Rattle.relup_exec.specs.Outcome.{IsRefused, Ran, past_behind, run_behind}
use Rattle.script_progress.specs.Script.{courses_within}
use Rattle.script_progress.specs.Steps.{HasDone, IsEarly, progress_of}
use Rattle.relup_exec.specs.Stepwise.{HasBegun, IsStopped, start_at}
use Rattle.sup_tree.specs.Tree.{App}
use Rattle.relup_exec.proofs.PointLemmas.{front_is}
use Rattle.relup_exec.proofs.OutcomeLemmas.{armed_well, refused_at_first, refused_well}
use Rattle.held_processes.proofs.SlotLemmas.{longer_still}
use Rattle.relup_exec.proofs.before.run_before.Goals as goal

pub returns-in_default-clause-refused : goal.returns-in_default-clause-refused
returns-in_default-clause-refused g c =
    let s = site_in c.args.site.now in
    let script = script_of c.args.script.now in
    subst₂ (λ (n : ℕ) (k : Cause). IsRefused s (start_in c.args.site.now) script n k (view_in c.args.site.now)) (sym c.out_of_memory.ensures.0) (sym c.out_of_memory.ensures.1)
    (refused_at_first s c.args.site.now.tree.now script (view_in c.args.site.now) c.requires.runnable c.requires.free)

pub returns-in_default-new-clause-refused : goal.returns-in_default-new-clause-refused
returns-in_default-new-clause-refused g c =
    let s = site_in c.args.site.now in
    let script = script_of c.args.script.now in
    subst₂ (λ (n : ℕ) (k : Cause). IsRefused s (start_in c.args.site.now) script n k (view_in c.args.site.now)) (sym c.out_of_memory-in_default-new.ensures.0) (sym c.out_of_memory-in_default-new.ensures.1)
    (refused_at_first s c.args.site.now.tree.now script (view_in c.args.site.now) c.requires.runnable c.requires.free)

pub run_early_with-done-requires-clause-early : goal.run_early_with-done-requires-clause-early
run_early_with-done-requires-clause-early g c =
    subst (AllByRecursion IsEarly) (sym (front_is c.args.script.now c.point_in-place.result c.point_in-place.ensures)) c.point_in-place.ensures.early

pub run_early_with-done-requires-clause-begun : goal.run_early_with-done-requires-clause-begun
run_early_with-done-requires-clause-begun g c = c.in-Ok.ensures.begun (view_in c.args.site.now) c.requires.free

pub roll_back_with-requires-clause-follow : goal.roll_back_with-requires-clause-follow
roll_back_with-requires-clause-follow g c =
    let stopped = c.in-Err.ensures.ran in
    (view_in c.args.site.now, courses_within (site_in c.args.site.now) true stopped.instruction stopped.modules stopped.slot (run_behind (site_in c.args.site.now) (start_at (view_in c.args.site.now) c.in-Ok.progress.tree) [] stopped.front), stopped.partly)

pub returns-in-Err-clause-refused : goal.returns-in-Err-clause-refused
returns-in-Err-clause-refused g c =
    let s = site_in c.args.site.now in
    let v = view_in c.args.site.now in
    let start = start_in c.args.site.now in
    let w = c.run_early_with-done.new in
    let before = script_of (take c.point_in-place.result c.args.script.now) in
    let e = c.in-Err.refused in
    let stopped = subst (λ (apps : List App). IsStopped s (start_at v apps) before e.instr (cause_of e.cause) w.run.progress.held w.seat.view) c.in-Ok.ensures.tree c.in-Err.ensures.ran in
    refused_well s start (script_of c.args.script.now) c.point_in-place.result before e.instr (cause_of e.cause) w.run.progress.held w.seat.view c.roll_back_with.new.seat.view
    c.point_in-place.ensures (front_is c.args.script.now c.point_in-place.result c.point_in-place.ensures) stopped c.roll_back_with.ensures.seen c.roll_back_with.ensures.found
    (c.roll_back_with.ensures.left v (courses_within s true stopped.instruction stopped.modules stopped.slot (run_behind s start [] stopped.front)) stopped.partly)

pub returns-in-Ok-done-clause-armed : goal.returns-in-Ok-done-clause-armed
returns-in-Ok-done-clause-armed g c =
    let s = site_in c.args.site.now in
    let v = view_in c.args.site.now in
    let start = start_in c.args.site.now in
    let w = c.run_early_with-done.new in
    let before = script_of (take c.point_in-place.result c.args.script.now) in
    let ran = subst (λ (apps : List App). Ran s (start_at v apps) w.seat.view [] before × HasDone (past_behind s (start_at v apps) [] before) (progress_of w.run.progress) w.run.progress.tree w.seat.view)
    c.in-Ok.ensures.tree c.in-Ok-done.ensures.ran in
    let none = ap (λ r. r.items) c.run_early_with-done.ensures.reported ∙ c.in-Some.ensures.items in
    let room = ap (λ r. vec_capacity r) c.run_early_with-done.ensures.reported in
    armed_well s start (script_of c.args.script.now) c.point_in-place.result (vec_capacity w.run.reported) w.run.reported.items before (progress_of w.run.progress) w.run.progress.tree w.seat.view
    c.point_in-place.ensures none (omega (arith, length-map c.args.script.now instruction_of, c.in-Some.ensures.capacity, room)) (front_is c.args.script.now c.point_in-place.result c.point_in-place.ensures) ran.0 ran.1

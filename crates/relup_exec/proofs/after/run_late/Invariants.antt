use Rattle.std.proofs.Common.{◌≡◌, ◌<◌, ◌≤◌, [], false, true, get_or, length, take}
use Rattle.std.specs.Prelude.{vec_capacity}
use Rattle.relup_instruction.specs.Instruction.{script_of}
use Rattle.relup_instruction.specs.Instruction.Instruction.{point_of_no_return}
use Rattle.script_progress.specs.Script.{courses_within}
use Rattle.script_progress.specs.InMemory.{site_of}
use Rattle.script_progress.specs.Steps.{HasDone, progress_of}
use Rattle.relup_exec.specs.InMemory.{SameScript}
use Rattle.relup_exec.specs.Outcome.{Ran, RanLate, past_behind, run_behind, still_early}
use Rattle.relup_exec.proofs.after.run_late.Given as goal

abbrev pub ghost-pass_point : goal.ghost-pass_point
ghost-pass_point g a = record { first = g.start.first; courses = (run_behind (site_of a.self.now.sources.now) g.start [] (script_of (take a.self.now.done a.self.now.script.now))).courses }

abbrev pub ghost-next_late : goal.ghost-next_late
ghost-next_late g a = past_behind (site_of a.self.now.sources.now) g.start a.self.now.reported.items (script_of (take a.self.now.done a.self.now.script.now))

abbrev pub ghost-close : goal.ghost-close
ghost-close g a = record {
  first = g.start.first;
  courses = courses_within (site_of a.self.sources.now) false (get_or (script_of a.self.script.now) a.self.done point_of_no_return) a.failure.modules a.failure.slot
      (run_behind (site_of a.self.sources.now) g.start a.self.reported.items (script_of (take a.self.done a.self.script.now)));
}

abbrev pub ghost-end : goal.ghost-end
ghost-end g a = record { first = g.start.first; courses = (run_behind (site_of a.self.sources.now) g.start a.self.reported.items (script_of a.self.script.now)).courses }

-- what the instructions so far did, the point of no return among them
abbrev pub invariant-loop-i : goal.invariant-loop-i
invariant-loop-i g l =
    let so_far = script_of (take l.i l.script) in
    let s = site_of l.fn.run.sources.now in
    (l.place < l.i)
    × (still_early true so_far ≡ false)
    × (length l.run.reported.items < l.i)
    × (length (script_of l.script) ≤ vec_capacity l.run.reported)
    × Ran s g.start l.access l.run.reported.items so_far
    × HasDone (past_behind s g.start l.run.reported.items so_far) (progress_of l.run.progress) l.run.progress.tree l.access
    × RanLate s g.start l.fn.access l.access l.run.reported.items so_far
    × (l.run.done ≡ l.i)
    × SameScript l.fn.run l.run

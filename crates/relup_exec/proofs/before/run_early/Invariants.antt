use Rattle.std.proofs.Common.{◌≡◌, [], take}
use Rattle.relup_instruction.specs.Instruction.{script_of}
use Rattle.script_progress.specs.InMemory.{site_of}
use Rattle.script_progress.specs.Steps.{HasDone, progress_of}
use Rattle.relup_exec.specs.InMemory.{SameScript}
use Rattle.relup_exec.specs.Outcome.{Ran, past_behind}
use Rattle.relup_exec.proofs.before.run_early.Given as goal

abbrev pub ghost-next_early : goal.ghost-next_early
ghost-next_early g a = past_behind (site_of a.self.now.sources.now) g.start [] (script_of (take a.self.now.done a.self.now.script.now))

-- what the instructions so far did
abbrev pub invariant-loop-i : goal.invariant-loop-i
invariant-loop-i g l =
    let so_far = script_of (take l.i l.script) in
    let s = site_of l.initial.run.sources.now in
    (l.run.done ≡ l.i)
    × SameScript l.initial.run l.run
    × (l.run.reported ≡ l.initial.run.reported)
    × Ran s g.start l.access [] so_far
    × HasDone (past_behind s g.start [] so_far) (progress_of l.run.progress) l.run.progress.tree l.access

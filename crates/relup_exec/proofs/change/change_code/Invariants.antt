use Rattle.std.proofs.Common.{◌≡◌, None, map, take}
use Rattle.proc_table.specs.declared.view.View.{View}
use Rattle.held_processes.specs.Operations.{values_seen}
use Rattle.relup_instruction.specs.Instruction.{change_of}
use Rattle.script_progress.specs.Fault.{change_fault}
use Rattle.script_progress.specs.InMemory.{site_of}
use Rattle.script_progress.specs.Steps.{HasDone, Past, progress_of}
use Rattle.relup_exec.proofs.StepLemmas.{past_changes}
use Rattle.relup_exec.proofs.change.change_code.Given as goal

-- the changes so far were made
abbrev pub invariant-loop-i : goal.invariant-loop-i
invariant-loop-i l = (past : Past) (v : View) → HasDone past (progress_of l.initial.progress) l.initial.progress.tree v
    → (change_fault (site_of l.sources) l.mode (map change_of (take l.i l.conversion.changes.items)) (values_seen v) past.run ≡ None)
    × HasDone (past_changes (site_of l.sources) l.mode (map change_of (take l.i l.conversion.changes.items)) past) (progress_of l.progress) l.progress.tree v

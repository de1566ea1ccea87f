-- What comes of a script where the handler has lent no pass, so that nobody but it comes to the processes. It is determined then.
use Rattle.std.specs.Prelude.{◌≡◌, ◌≢◌, ℕ, ◌+◌, ◌<◌, Bool, true, false, ◌&&◌, not, List, [], ◌∷◌, Option, Some, None}
use Rattle.proc_history.specs.Histories.{replay_from}
use Rattle.proc_table.specs.declared.view.View.{View}
use Rattle.proc_table.specs.Agrees.{slots}
use Rattle.proc_table.specs.Views.{seen}
use Rattle.relup_instruction.specs.Instruction.{Instruction}
use Rattle.relup_file.specs.Script.{is_point}
use Rattle.loaded_modules.specs.Loaded.{NamedModules}
use Rattle.sup_tree.specs.Tree.{App}
use Rattle.held_processes.specs.Course.{added}
use Rattle.held_processes.specs.Operations.{Values}
use Rattle.script_progress.specs.Script.{Site, Run, run_after, stays_at}
use Rattle.script_progress.specs.Fault.{Cause, fault}
use Rattle.script_progress.specs.Fault.Cause.{no_memory}
use Rattle.relup_exec.specs.Outcome.{Start, ArmedForm, IsArmed, IsBroken, IsFinished, IsRefused, began_at, run_behind}

-- what the blocks of the courses leave of what stood in the slots
abbrev pub values_alone : Run → Values
values_alone r p = replay_from (r.values p) (added (r.courses p).blocks)

-- How a script ends: all was done, or the instruction with this number fails, before the point or after it.
pub data Outcome : Type 0 where
  ends : Run → Outcome
  refuses : ℕ → Cause → Outcome
  breaks : ℕ → Cause → Outcome

abbrev pub fails_at : Bool → ℕ → Cause → Outcome
fails_at true n c = refuses n c
fails_at false n c = breaks n c

abbrev pub unless_fault : Option Cause → Bool → ℕ → Outcome → Outcome
unless_fault None early n more = more
unless_fault (Some c) early n more = fails_at early n c

-- what an instruction does, by what the blocks leave
abbrev pub step_alone : Site → Bool → Instruction → Run → Run
step_alone s early i r = run_after s early (stays_at (values_alone r) i r) i r

-- what comes of these instructions, after so many others
abbrev pub outcome_from : Site → Bool → ℕ → List Instruction → Run → Outcome
outcome_from s early n [] r = ends r
outcome_from s early n (i ∷ is) r =
    unless_fault (fault s (values_alone r) r i) early (n + 1) (outcome_from s (early && not (is_point i)) (n + 1) is (step_alone s early i r))

-- what comes of a script
abbrev pub outcome : Site → Run → List Instruction → Outcome
outcome s r script = outcome_from s true 0 script r

-- Each outcome of a script that the handler carries out alone is this one, memory aside; and one that has come to its point isn't
-- refused before it.
pub record HasOneOutcome : Type 0 where
  pub finished : (s : Site) (start : Start) (script : List Instruction) (loaded : NamedModules) (apps : List App) (v : View)
      → start.first.lent ≡ [] → (f : IsFinished s start script loaded apps v) → outcome s (began_at s start) script ≡ ends (run_behind s start f.reported script)
  pub armed : (s : Site) (start : Start) (script : List Instruction) (a : ArmedForm) (v : View) → start.first.lent ≡ [] → IsArmed s start script a v
      → (number : ℕ) (c : Cause) → outcome s (began_at s start) script ≡ refuses number c → ⊥
  pub refused : (s : Site) (start : Start) (script : List Instruction) (number : ℕ) (c : Cause) (v : View)
      → start.first.lent ≡ [] → c ≢ no_memory → IsRefused s start script number c v → outcome s (began_at s start) script ≡ refuses number c
  pub broken : (s : Site) (start : Start) (script : List Instruction) (number : ℕ) (c : Cause) (v : View)
      → start.first.lent ≡ [] → c ≢ no_memory → IsBroken s start script number c v → outcome s (began_at s start) script ≡ breaks number c

-- Where an instruction fails after the point, the handler that carries the script out alone leaves one history in each slot,
-- memory aside.
abbrev pub LeavesOneHistory : Type 0
LeavesOneHistory = (s : Site) (start : Start) (script : List Instruction) (number : ℕ) (c : Cause) (v w : View) → start.first.lent ≡ [] → c ≢ no_memory
    → IsBroken s start script number c v → IsBroken s start script number c w → (p : ℕ) → p < slots → seen v p ≡ seen w p

-- What is known between the instructions of a script.
use Rattle.std.specs.Prelude.{◌≡◌, ℕ, true, List, [], Result, Ok, Err}
use Rattle.proc_table.specs.declared.view.View.{View}
use Rattle.relup_instruction.specs.Instruction.{Instruction}
use Rattle.sup_tree.specs.Tree.{App}
use Rattle.held_processes.specs.Following.{HeldSlots, AllFollow}
use Rattle.held_processes.specs.Operations.{values_seen}
use Rattle.relup_exec.specs.declared.before.Refused.{Refused}
use Rattle.script_progress.specs.Script.{Site, courses_within}
use Rattle.script_progress.specs.Fault.{Cause}
use Rattle.script_progress.specs.InMemory.{cause_of}
use Rattle.relup_exec.specs.Outcome.{IsInstructionAt, Ran, Start, past_behind, run_behind}
use Rattle.script_progress.specs.Steps.{HasDone, IsFault, ProgressForm}
use Rattle.script_progress.specs.Stops.{is_memory, takes_memory}

abbrev pub start_at : View → List App → Start
start_at v apps = record { first = v; apps = apps }

-- A script has begun, and nothing was done yet.
abbrev pub HasBegun : Site → Start → ProgressForm → List App → View → Type 0
HasBegun s start a tree v = HasDone (past_behind s start [] []) a tree v

-- Of these instructions the one with this number is the first that fails. It was done in part. Out of memory is reported only of
-- one that asks for memory.
pub record IsStopped (s : Site) (start : Start) (is : List Instruction) (number : ℕ) (c : Cause) (hs : HeldSlots) (v : View) : Type 0 where
  pub front : List Instruction
  pub instruction : Instruction
  pub at : IsInstructionAt is number front instruction
  pub ran : Ran s start v [] front
  pub fails : IsFault start.first s v (run_behind s start [] front) instruction c
  pub asks : is_memory c ≡ true → takes_memory s (values_seen v) (run_behind s start [] front) instruction ≡ true
  pub modules : ℕ
  pub slot : ℕ
  pub partly : AllFollow start.first (courses_within s true instruction modules slot (run_behind s start [] front)) hs v

-- The instructions were all carried out, or one fails.
abbrev pub RunsAll : {X : Type 0} → Site → Start → List Instruction → Result X Refused → ProgressForm → List App → View → Type 0
RunsAll s start is (Ok x) a tree v = Ran s start v [] is × HasDone (past_behind s start [] is) a tree v
RunsAll s start is (Err e) a tree v = IsStopped s start is e.instr (cause_of e.cause) a.held v

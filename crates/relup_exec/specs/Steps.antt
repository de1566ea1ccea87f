-- What the parts of a step leave to each other.
use Rattle.std.specs.Prelude.{◌≡◌, ℕ, Bool, true, false, List, [], ◌∷◌, Option, None, Result, Ok, Err}
use Rattle.std.specs.List.{list_any}
use Rattle.proc_table.specs.declared.view.View.{View}
use Rattle.library.specs.Library.{Library}
use Rattle.relup_instruction.specs.declared.instruction.Direction.{Direction}
use Rattle.relup_instruction.specs.Instruction.{ChangeForm, Instruction}
use Rattle.relup_instruction.specs.Instruction.Instruction.{apply, remove}
use Rattle.loaded_modules.specs.Loaded.{NamedModules, module_named}
use Rattle.sup_tree.specs.Tree.{App}
use Rattle.held_processes.specs.Course.{ModulesBySlot}
use Rattle.held_processes.specs.Course.Operation.{suspend}
use Rattle.held_processes.specs.Following.{AllFollow, Followed, HeldSlots}
use Rattle.held_processes.specs.Operations.{has_free_user, values_seen}
use Rattle.script_progress.specs.declared.cause.Cause as declared
use Rattle.script_progress.specs.declared.cause.Failure.{Failure}
use Rattle.script_progress.specs.Script.{Site, change_within, changed_once, each_within, fetched_from, load_courses, load_within, old_version, on_each, processes_changed, modules_by_slot_in, worker_in}
use Rattle.script_progress.specs.Fault.{change_fault, fetch_fault, table_fault}
use Rattle.script_progress.specs.Fault.Cause.{no_memory}
use Rattle.script_progress.specs.InMemory.{cause_of}
use Rattle.script_progress.specs.Steps.{HasDone, IsCause, IsCauseIn, Past, ProgressForm}
use Rattle.script_progress.specs.Stops.{UnlessMemory, change_asks, fetch_asks, is_memory, is_stuck_at}

-- whether an instruction may go by a look at processes: it makes a call, or removes a module
abbrev pub goes_by_looks : Instruction → Bool
goes_by_looks (apply c) = true
goes_by_looks (remove p) = true
goes_by_looks i = false

-- The processes of all these modules are suspended, or some of them, since memory was refused for one that wasn't held.
abbrev pub AreSuspended : {X : Type 0} → Followed → ModulesBySlot → List (List ℕ) → Result X Failure → HeldSlots → View → Type 0
AreSuspended followed users names (Ok x) hs v = AllFollow followed.first (on_each suspend names users followed.courses) hs v
AreSuspended followed users names (Err e) hs v =
    (cause_of e.cause ≡ no_memory) × AllFollow followed.first (each_within suspend names e.modules e.slot users followed.courses) hs v
    × (list_any (λ n. has_free_user users n followed.courses) names ≡ true)

-- The modules of a library were fetched, or they can't be.
abbrev pub Fetches : {X : Type 0} → Option Library → List (List ℕ) → NamedModules → Result X declared.Cause → NamedModules → Type 0
Fetches l names ms (Ok x) ms' = (fetch_fault l names ≡ None) × (ms' ≡ fetched_from l names ms)
Fetches l names ms (Err e) ms' = IsCause (fetch_fault l names) (cause_of e) × (is_memory (cause_of e) ≡ true → fetch_asks l names ≡ true)

-- The processes of a module got the table of a worker that was fetched, if any was; or they, or some of them, can't get it.
abbrev pub GivesTable : {X : Type 0} → Past → Bool → List ℕ → Result X Failure → HeldSlots → View → Type 0
GivesTable past early name (Ok x) hs v =
    (table_fault (worker_in (module_named name past.run.fetched)) (modules_by_slot_in past.run) name ≡ None)
    × AllFollow past.first (load_courses early name (worker_in (module_named name past.run.fetched)) (modules_by_slot_in past.run) past.run.courses) hs v
GivesTable past early name (Err e) hs v =
    IsCauseIn past.first v past.run (table_fault (worker_in (module_named name past.run.fetched)) (modules_by_slot_in past.run) name) (cause_of e.cause)
    × AllFollow past.first (load_within early name (worker_in (module_named name past.run.fetched)) e.slot (modules_by_slot_in past.run) past.run.courses) hs v
    × (is_memory (cause_of e.cause) ≡ true → table_fault (worker_in (module_named name past.run.fetched)) (modules_by_slot_in past.run) name ≡ None)

-- The change of code can't be made, after so many others, for the process in this slot.
abbrev pub FailsToChange : Site → Past → Direction → ℕ → ChangeForm → Failure → ProgressForm → View → Type 0
FailsToChange s past mode number c e a v =
    IsCause (change_fault s mode (c ∷ []) (values_seen v) past.run) (cause_of e.cause) × (e.modules ≡ number)
    × UnlessMemory (cause_of e.cause) (is_stuck_at (old_version s mode c.name past.run) c e.slot (values_seen v) past.run ≡ true)
    × AllFollow past.first (change_within c.name (old_version s mode c.name past.run) c e.slot (modules_by_slot_in past.run) past.run.courses) a.held v
    × (is_memory (cause_of e.cause) ≡ true → change_asks s mode c past.run ≡ true)

-- A change of code was made, or can't be made.
abbrev pub ChangesOnce : {X : Type 0} → Site → Past → Direction → ℕ → ChangeForm → Result X Failure → ProgressForm → List App → View → Type 0
ChangesOnce s past mode number c (Ok x) a tree v =
    (change_fault s mode (c ∷ []) (values_seen v) past.run ≡ None) × HasDone (record past { run = changed_once s mode c past.run }) a tree v
ChangesOnce s past mode number c (Err e) a tree v = FailsToChange s past mode number c e a v

-- A change of code was made in the processes of its module, or can't be made.
abbrev pub ChangesProcesses : {X : Type 0} → Site → Past → Direction → ℕ → ChangeForm → Result X Failure → ProgressForm → List App → View → Type 0
ChangesProcesses s past mode number c (Ok x) a tree v =
    (change_fault s mode (c ∷ []) (values_seen v) past.run ≡ None) × HasDone (record past { run = processes_changed s mode c past.run }) a tree v
ChangesProcesses s past mode number c (Err e) a tree v = FailsToChange s past mode number c e a v

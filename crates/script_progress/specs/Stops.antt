-- How far an instruction comes that fails.
use Rattle.std.specs.Prelude.{◌≡◌, ℕ, zero, suc, Bool, true, false, ◌&&◌, ◌||◌, not, nat_lt, List, [], ◌∷◌, is_some, Option, Some, None, Result, Ok, Err, if◌then◌else◌}
use Rattle.std.specs.List.{list_any}
use Rattle.std.specs.Option.{option_map_or}
use Rattle.mod_table.specs.declared.table.Table.{Table}
use Rattle.mod_table.specs.declared.table.Table.TheVariants.{Super}
use Rattle.loaded_modules.specs.Loaded.{module_named}
use Rattle.library.specs.Library.{Library}
use Rattle.worker_table.specs.Table.{OldVersion}
use Rattle.proc_table.specs.declared.view.View.{View}
use Rattle.proc_table.specs.Agrees.{slots}
use Rattle.relup_instruction.specs.declared.instruction.Direction.{Direction}
use Rattle.relup_instruction.specs.Instruction.{CallForm, ChangeForm, Instruction}
use Rattle.relup_instruction.specs.Instruction.Instruction.{load_object_code, suspend, load, code_change, apply}
use Rattle.relup_file.specs.Script.{is_error}
use Rattle.sup_tree.specs.Children.{child_place, has_one_supervisor}
use Rattle.sup_tree.specs.Tree.{app_named}
use Rattle.sup_tree.specs.Places.{Place}
use Rattle.held_processes.specs.Children.{AreSeen}
use Rattle.held_processes.specs.Operations.{Values, has_free_user, holds_user, is_lowest, lacks_row_at, values_seen}
use Rattle.held_processes.specs.Restarts.{is_held_state}
use Rattle.script_progress.specs.declared.cause.Failure.{Failure}
use Rattle.script_progress.specs.Calls.{AppCall, ChildCall, app_call, child_call, is_on_child}
use Rattle.script_progress.specs.Calls.AppCall.{starts}
use Rattle.script_progress.specs.Calls.ChildCall.{restarts}
use Rattle.script_progress.specs.Fault.{Cause, is_stuck, load_fault}
use Rattle.script_progress.specs.Fault.Cause.{no_memory, no_slot, no_super}
use Rattle.script_progress.specs.InMemory.{cause_of}
use Rattle.script_progress.specs.Script.{Run, Site, changed_once, child_stays_at, library_for, mode_of, old_version, suspended_in, tables_among, target_library, modules_by_slot_in}

-- A statement of each cause but out of memory, which may be reported anywhere.
abbrev pub UnlessMemory : Cause → Type 0 → Type 0
UnlessMemory no_memory P = Unit {0}
UnlessMemory c P = P

-- whether the process in this slot is the first whose code can't be changed. Without a version to change from none is changed, so
-- each slot will do.
abbrev pub is_stuck_at : Option OldVersion → ChangeForm → ℕ → Values → Run → Bool
is_stuck_at None c slot seen r = is_stuck None c seen r
is_stuck_at (Some old) c slot seen r = nat_lt slot slots && is_lowest (lacks_row_at old c.extra seen (modules_by_slot_in r) c.name r.courses) slot

-- whether the change after so many others is the first that can't be made, for the process in this slot
abbrev pub is_first_stuck : Site → Direction → List ChangeForm → ℕ → ℕ → Values → Run → Bool
is_first_stuck s mode [] n slot seen r = false
is_first_stuck s mode (c ∷ cs) zero slot seen r = is_stuck_at (old_version s mode c.name r) c slot seen r
is_first_stuck s mode (c ∷ cs) (suc n) slot seen r =
    not (is_stuck (old_version s mode c.name r) c seen r) && is_first_stuck s mode cs n slot seen (changed_once s mode c r)

-- whether what stands for a child that doesn't begin again is given up: its process is held, or there are too few slots
abbrev pub child_goes : Cause → Option Place → Run → Bool
child_goes no_super o r = false
child_goes no_slot o r = true
child_goes c o r = option_map_or (λ (p : Place). is_held_state p.child.state r.courses) o false

-- whether a child is there to begin again: its supervisor is the only one of its module, and the child doesn't stay
abbrev pub may_begin : Values → List ℕ → List ℕ → Run → Bool
may_begin seen super id r = has_one_supervisor super r.apps && not (child_stays_at seen (restarts super id) r)

-- of how many modules a call on a child counts as done that fails: of one where what stands for the child is given up
abbrev pub child_count : Values → Cause → ChildCall → Run → ℕ
child_count seen c (restarts super id) r = if may_begin seen super id r && child_goes c (child_place super id r.apps) r then 1 else 0
child_count seen c call r = 0

-- What a call that fails was done for, in histories that the handler has seen.
abbrev pub CallStops : View → View → Run → CallForm → Cause → ℕ → Type 0
CallStops first v r call c n = is_on_child call ≡ true → AreSeen first r.courses v × (n ≡ child_count (values_seen v) c (child_call call) r)

-- An instruction that fails for this cause was done for so many of its modules, and for the next one in the slots below this. The
-- others do nothing where they fail, or fail for memory alone.
abbrev pub StopsIn : View → Site → View → Run → Instruction → Cause → ℕ → ℕ → Type 0
StopsIn first s v r (code_change conversion) c n slot =
    UnlessMemory c (is_first_stuck s (mode_of conversion.mode) conversion.changes n slot (values_seen v) r ≡ true)
StopsIn first s v r (apply call) c n slot = CallStops first v r call c n
StopsIn first s v r i c n slot = Unit {0}

abbrev pub is_memory : Cause → Bool
is_memory no_memory = true
is_memory c = false

-- whether an application is there to start: the release has it, and it isn't started yet
abbrev pub may_start : Option Library → Run → Bool
may_start None r = false
may_start (Some l) r = not (is_some (app_named l.app.name r.apps))

-- Whether a call asks for memory: for what an application or a child needs that is there to start or to begin again, or for the
-- term of an error. A call that leaves all as it is asks for none.
abbrev pub app_takes_memory : Site → AppCall → Run → Bool
app_takes_memory s (starts name) r = may_start (target_library s name) r
app_takes_memory s call r = false

abbrev pub child_takes_memory : Values → ChildCall → Run → Bool
child_takes_memory seen (restarts super id) r = may_begin seen super id r
child_takes_memory seen call r = false

abbrev pub call_takes_memory : Site → Values → CallForm → Run → Bool
call_takes_memory s seen c r =
    is_error c || (if is_on_child c then child_takes_memory seen (child_call c) r else app_takes_memory s (app_call c) r)

-- whether a fetch of these modules asks for memory: the library is there, and there is a module
abbrev pub fetch_asks : Option Library → List (List ℕ) → Bool
fetch_asks None names = false
fetch_asks l [] = false
fetch_asks l (n ∷ ns) = true

abbrev pub is_super : Option Table → Bool
is_super (Some (Super t)) = true
is_super t = false

-- whether a change of code asks for memory: for the version that a process is changed from, where one is held, or for the
-- children of supervisors
abbrev pub change_asks : Site → Direction → ChangeForm → Run → Bool
change_asks s mode c r =
    is_some (old_version s mode c.name r) && holds_user (modules_by_slot_in r) c.name r.courses || is_super (tables_among r.modules c.name)

-- whether one of these changes does, where those in front of it can be made
abbrev pub changes_ask : Site → Direction → List ChangeForm → Values → Run → Bool
changes_ask s mode [] seen r = false
changes_ask s mode (c ∷ cs) seen r =
    change_asks s mode c r
    || (not (is_stuck (old_version s mode c.name r) c seen r) && changes_ask s mode cs seen (changed_once s mode c r))

-- Whether an instruction asks for memory, where the histories that the handler has seen leave this. A suspend asks for a process
-- that isn't held yet, and a load that has no fault always does.
abbrev pub takes_memory : Site → Values → Run → Instruction → Bool
takes_memory s seen r (load_object_code f) = fetch_asks (library_for s f) f.modules
takes_memory s seen r (suspend ss) = list_any (λ n. has_free_user (modules_by_slot_in r) n r.courses) (suspended_in ss)
takes_memory s seen r (load p) = not (is_some (load_fault (module_named p.name r.fetched) (modules_by_slot_in r) p.name))
takes_memory s seen r (code_change c) = changes_ask s (mode_of c.mode) c.changes seen r
takes_memory s seen r (apply c) = call_takes_memory s seen c r
takes_memory s seen r i = false

-- A call that fails is out of memory only if it asks for memory.
abbrev pub AsksMemory : {X : Type 0} → Bool → Result X Failure → Type 0
AsksMemory asks (Ok x) = Unit {0}
AsksMemory asks (Err e) = is_memory (cause_of e.cause) ≡ true → asks ≡ true

-- An instruction that fails for this cause was done for so many of its modules, as `StopsIn` says, and is out of memory only if
-- it asks for memory.
abbrev pub StopsAt : View → Site → View → Run → Instruction → Cause → ℕ → ℕ → Type 0
StopsAt first s v r i c n slot = (is_memory c ≡ true → takes_memory s (values_seen v) r i ≡ true) × StopsIn first s v r i c n slot

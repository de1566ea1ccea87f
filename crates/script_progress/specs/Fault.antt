-- Why an instruction fails (OTP: appup(4); the causes are this project's own).
use Rattle.std.specs.Prelude.{ℕ, ◌||◌, Bool, List, [], ◌∷◌, ◌++◌, length, codes, is_some, nat_lt, Option, Some, None, if◌then◌else◌}
use Rattle.std.specs.List.{list_all}
use Rattle.erl_term.specs.Value.{Value, Values as Terms}
use Rattle.erl_term.specs.Value.Values.{value}
use Rattle.erl_term.specs.Printing.{text_of}
use Rattle.library.specs.Library.{Library}
use Rattle.worker_table.specs.Table.{OldVersion, WorkerTable}
use Rattle.mod_table.specs.Tables.{Tables}
use Rattle.relup_instruction.specs.declared.instruction.Direction.{Direction}
use Rattle.relup_instruction.specs.Instruction.{ChangeForm, CallForm, Instruction}
use Rattle.relup_instruction.specs.Instruction.Instruction.{load_object_code, load, code_change, remove, apply}
use Rattle.relup_file.specs.Script.{is_error}
use Rattle.loaded_modules.specs.Loaded.{Module, library_modules, module_named}
use Rattle.sup_tree.specs.Places.{Place}
use Rattle.sup_tree.specs.Children.{child_place, has_one_supervisor}
use Rattle.sup_tree.specs.Begins.{restart_fault}
use Rattle.sup_tree.specs.Tree.{app_named, supervises}
use Rattle.sup_tree.specs.Walk.{StartFault, app_fault, app_starts}
use Rattle.sup_tree.specs.Walk as walk
use Rattle.held_processes.specs.Course.{ModulesBySlot}
use Rattle.held_processes.specs.Applications.{room_in}
use Rattle.held_processes.specs.Operations.{Values, holds_user, is_used, lacks_row, uses_up}
use Rattle.held_processes.specs.Restarts.{child_ended, restart_starts}
use Rattle.script_progress.specs.Script.{Site, Run, changed_once, child_stays_at, library_for, mode_of, old_version, scene_of, tables_among, target_library, modules_by_slot_in, worker_in}
use Rattle.script_progress.specs.Calls.{AppCall, ChildCall, app_call, child_call, is_on_child}
use Rattle.script_progress.specs.Calls.AppCall.{starts, stops, idle}
use Rattle.script_progress.specs.Calls.ChildCall.{terminates, deletes, restarts, nothing}

-- why a script isn't carried out
pub data Cause : Type 0 where
  no_library : Cause
  no_module : Cause
  not_fetched : Cause
  no_table : Cause
  no_change : Cause
  raised : Value → Cause
  in_use : Cause
  no_app : Cause
  no_slot : Cause
  unsupported : Cause
  no_super : Cause
  no_memory : Cause

-- the name of a cause
abbrev pub cause_name : Cause → List ℕ
cause_name no_library = codes "NoLibrary"
cause_name no_module = codes "NoModule"
cause_name not_fetched = codes "NotFetched"
cause_name no_table = codes "NoTable"
cause_name no_change = codes "NoChange"
cause_name (raised x) = codes "Raised"
cause_name in_use = codes "InUse"
cause_name no_app = codes "NoApp"
cause_name no_slot = codes "NoSlot"
cause_name unsupported = codes "Unsupported"
cause_name no_super = codes "NoSuper"
cause_name no_memory = codes "NoMemory"

-- how a cause is shown: by its name, and an error's with its term
abbrev pub cause_text : Cause → List ℕ
cause_text (raised x) = codes "Raised " ++ text_of x
cause_text c = cause_name c

-- the library isn't there, or lacks one of the modules
abbrev pub fetch_fault : Option Library → List (List ℕ) → Option Cause
fetch_fault None names = Some no_library
fetch_fault (Some l) names = if list_all (λ n. is_some (library_modules l n)) names then None else Some no_module

-- A process runs the module, and no table of a worker was fetched.
abbrev pub table_fault : Option WorkerTable → ModulesBySlot → List ℕ → Option Cause
table_fault (Some w) users name = None
table_fault None users name = if is_used users name then Some no_table else None

-- the module wasn't fetched, or not with the table that its processes need
abbrev pub load_fault : Option Module → ModulesBySlot → List ℕ → Option Cause
load_fault None users name = Some not_fetched
load_fault (Some m) users name = table_fault (worker_in (Some m)) users name

-- whether a process of the module is held whose code can't be changed: there is no version to change it from, or no row
abbrev pub is_stuck : Option OldVersion → ChangeForm → Values → Run → Bool
is_stuck None c seen r = holds_user (modules_by_slot_in r) c.name r.courses
is_stuck (Some old) c seen r = lacks_row old c.extra seen (modules_by_slot_in r) c.name r.courses

-- why one of several changes of code can't be made, after those in front of it
abbrev pub change_fault : Site → Direction → List ChangeForm → Values → Run → Option Cause
change_fault s mode [] seen r = None
change_fault s mode (c ∷ cs) seen r =
    if is_stuck (old_version s mode c.name r) c seen r then Some no_change else change_fault s mode cs seen (changed_once s mode c r)

-- a process that is up runs the module, or a supervisor of a started application
abbrev pub remove_fault : List ℕ → Values → Run → Option Cause
remove_fault name seen r = if supervises name r.apps || uses_up seen (modules_by_slot_in r) name r.courses then Some in_use else None

abbrev pub walk_cause : StartFault → Cause
walk_cause (walk.StartFault.no_table m) = no_table
walk_cause walk.StartFault.unsupported = unsupported

-- what is wrong below the top of an application, or that there are too few slots for its processes
abbrev pub start_fault_or : Option StartFault → ℕ → ℕ → Option Cause
start_fault_or (Some f) need room = Some (walk_cause f)
start_fault_or None need room = if nat_lt room need then Some no_slot else None

abbrev pub app_start_fault : Option (List ℕ) → Tables → Run → Option Cause
app_start_fault top tables r = start_fault_or (app_fault tables top) (length (app_starts tables top)) (room_in r.values r.courses)

-- The release has no such application. One that is started doesn't fail.
abbrev pub start_fault : Option Library → Run → Option Cause
start_fault None r = Some no_app
start_fault (Some l) r =
    if is_some (app_named l.app.name r.apps) then None else app_start_fault l.app.top (tables_among r.modules) r

abbrev pub app_call_fault : Site → AppCall → Run → Option Cause
app_call_fault s (starts name) r = start_fault (target_library s name) r
app_call_fault s (stops name) r = None
app_call_fault s idle r = None

-- why a call on a child fails: not exactly one supervisor of the module is started, or there is another fault
abbrev pub super_fault_or : List ℕ → Run → Option Cause → Option Cause
super_fault_or super r o = if has_one_supervisor super r.apps then o else Some no_super

-- what is wrong with a child that begins again, or below it, or that there are too few slots, once what stands for it is given up
abbrev pub restart_fault_at : Option Place → Tables → Run → Option Cause
restart_fault_at None tables r = None
restart_fault_at (Some p) tables r =
    start_fault_or (restart_fault tables p.child) (length (restart_starts tables p)) (room_in r.values (child_ended (scene_of r) (Some p)))

-- A child that stays has no fault.
abbrev pub restart_call_fault : Bool → List ℕ → List ℕ → Run → Option Cause
restart_call_fault stays super id r = if stays then None else restart_fault_at (child_place super id r.apps) (tables_among r.modules) r

abbrev pub child_call_fault : Values → ChildCall → Run → Option Cause
child_call_fault seen (terminates super id) r = super_fault_or super r None
child_call_fault seen (deletes super id) r = super_fault_or super r None
child_call_fault seen (restarts super id) r = super_fault_or super r (restart_call_fault (child_stays_at seen (restarts super id) r) super id r)
child_call_fault seen nothing r = None

abbrev pub error_cause : Terms → Option Cause
error_cause (value x vs) = Some (raised x)
error_cause vs = None

-- why a call fails: it raises an error, or can't be done on its child of a supervisor, or on its application
abbrev pub call_fault : Site → Values → CallForm → Run → Option Cause
call_fault s seen c r =
    if is_error c then error_cause c.args
    else if is_on_child c then child_call_fault seen (child_call c) r else app_call_fault s (app_call c) r

-- Why an instruction fails after what was done, where the histories that the handler has seen leave this; memory aside.
abbrev pub fault : Site → Values → Run → Instruction → Option Cause
fault s seen r (load_object_code f) = fetch_fault (library_for s f) f.modules
fault s seen r (load p) = load_fault (module_named p.name r.fetched) (modules_by_slot_in r) p.name
fault s seen r (code_change c) = change_fault s (mode_of c.mode) c.changes seen r
fault s seen r (remove p) = remove_fault p.name seen r
fault s seen r (apply c) = call_fault s seen c r
fault s seen r i = None

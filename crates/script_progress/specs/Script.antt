-- What the instructions of a script do, one after another (OTP: appup(4), low-level instructions): which modules are fetched, which
-- are loaded, which applications are started, and the course of each process.
use Rattle.std.specs.Prelude.{ℕ, zero, suc, Bool, false, List, [], ◌∷◌, map, is_some, Option, Some, None, if◌then◌else◌}
use Rattle.std.specs.List.{find}
use Rattle.std.specs.Option.{option_map, option_and_then, option_or}
use Rattle.std.specs.Str.{bytes_eq}
use Rattle.mod_table.specs.declared.table.Table.{Table}
use Rattle.mod_table.specs.declared.table.Table.TheVariants.{Worker, Super}
use Rattle.worker_table.specs.Table.{OldVersion, WorkerTable}
use Rattle.worker_table.specs.Table.OldVersion.{up, down}
use Rattle.library.specs.Library.{Library}
use Rattle.mod_table.specs.Tables.{Tables}
use Rattle.rel_list.specs.Releases.{Releases, library_in}
use Rattle.relup_instruction.specs.declared.instruction.Direction.{Direction}
use Rattle.relup_instruction.specs.declared.instruction.Direction.TheVariants.{Up, Down}
use Rattle.relup_instruction.specs.Instruction.{FetchForm, SuspensionForm, ChangeForm, CallForm, Instruction}
use Rattle.relup_instruction.specs.Instruction.Instruction.{load_object_code, point_of_no_return, suspend, load, code_change, resume, remove, stop, start, apply}
use Rattle.loaded_modules.specs.Loaded.{Module, NamedModules, library_modules, module_named, with_loaded, without_module}
use Rattle.sup_tree.specs.Stay.TheVariants as stay
use Rattle.sup_tree.specs.Changes.{apps_changed}
use Rattle.sup_tree.specs.Places.{Place}
use Rattle.sup_tree.specs.Children.{child_place}
use Rattle.sup_tree.specs.Tree.{App, app_named}
use Rattle.held_processes.specs.Applications.{Scene, with_started, with_stopped}
use Rattle.held_processes.specs.Children.{child_stays, with_deleted, with_terminated}
use Rattle.held_processes.specs.Course as course
use Rattle.held_processes.specs.Course.{Courses, Operation, ModulesBySlot, opening, on_module, on_all}
use Rattle.held_processes.specs.Operations.{Values, now_in, part_way, modules_by_slot}
use Rattle.held_processes.specs.Restarts.{child_ended, with_restarted}
use Rattle.script_progress.specs.Calls.{AppCall, ChildCall, app_call, child_call, is_on_child}
use Rattle.script_progress.specs.Calls.AppCall.{starts, stops, idle}
use Rattle.script_progress.specs.Calls.ChildCall.{terminates, deletes, restarts, nothing}

-- Where a script runs: the node's releases, from whose libraries modules are fetched; the libraries of the release to which it
-- leads; and what was loaded when it began.
pub record Site : Type 0 where
  pub releases : Releases
  pub target : List Library
  pub loaded : NamedModules

-- What was done so far: the modules that were fetched, those that are loaded, the started applications, and what was done to the
-- process in each slot, where this stood when the script began.
pub record Run : Type 0 where
  pub fetched : NamedModules
  pub modules : NamedModules
  pub apps : List App
  pub values : Values
  pub courses : Courses

-- what a script has done when it begins: nothing yet
abbrev pub began : Site → List App → Values → Run
began s apps values = record { fetched = []; modules = s.loaded; apps = apps; values = values; courses = λ p. opening }

abbrev pub modules_by_slot_in : Run → ModulesBySlot
modules_by_slot_in r = modules_by_slot r.apps

abbrev pub with_courses : Run → (ModulesBySlot → Courses → Courses) → Run
with_courses r f = record r { courses = f (modules_by_slot_in r) r.courses }

-- these modules of a library, in place of those of their names
abbrev pub fetched_of : Library → List (List ℕ) → NamedModules → NamedModules
fetched_of l [] ms = ms
fetched_of l (n ∷ ns) ms = fetched_of l ns (with_loaded (library_modules l n) n ms)

abbrev pub fetched_from : Option Library → List (List ℕ) → NamedModules → NamedModules
fetched_from None names ms = ms
fetched_from (Some l) names ms = fetched_of l names ms

-- the library that an instruction fetches from
abbrev pub library_for : Site → FetchForm → Option Library
library_for s f = library_in s.releases f.app f.vsn

-- the table of a worker
abbrev pub worker_table : Option Table → Option WorkerTable
worker_table (Some (Worker w)) = Some w
worker_table t = None

abbrev pub worker_in : Option Module → Option WorkerTable
worker_in m = worker_table (option_and_then (λ (n : Module). n.table) m)

-- each process of a module gets the table of a worker; nothing is done to one where another kind is loaded
abbrev pub load_courses : Bool → List ℕ → Option WorkerTable → ModulesBySlot → Courses → Courses
load_courses keep name None users cs = cs
load_courses keep name (Some w) users cs = on_module users name (course.Operation.load keep w) cs

-- the module that was fetched is loaded
abbrev pub loaded_after : Bool → List ℕ → Option Module → Run → Run
loaded_after keep name m r = with_courses (record r { modules = with_loaded m name r.modules }) (load_courses keep name (worker_in m))

-- the version of a module
abbrev pub version_in : List ℕ → NamedModules → Option (List ℕ)
version_in name ms = option_map (λ (m : Module). m.vsn) (module_named name ms)

-- What code is changed from: going up, the version that was loaded when the script began; going down, to the version that was
-- fetched, or else to the loaded one.
abbrev pub old_version : Site → Direction → List ℕ → Run → Option OldVersion
old_version s Up name r = option_map up (version_in name s.loaded)
old_version s Down name r = option_map down (option_or (version_in name r.fetched) (version_in name r.modules))

abbrev pub change_courses : List ℕ → Option OldVersion → ChangeForm → ModulesBySlot → Courses → Courses
change_courses name None c users cs = cs
change_courses name (Some old) c users cs = on_module users name (course.Operation.change old c.extra) cs

-- what one change of code does to the processes of the module
abbrev pub processes_changed : Site → Direction → ChangeForm → Run → Run
processes_changed s mode c r = with_courses r (change_courses c.name (old_version s mode c.name r) c)

-- the tables of these modules
abbrev pub tables_among : NamedModules → Tables
tables_among ms name = option_and_then (λ (m : Module). m.table) (module_named name ms)

-- The supervisors of a module have the children of its table, where that is one of a supervisor.
abbrev pub supervisors_changed : List ℕ → Option Table → List App → List App
supervisors_changed name (Some (Super t)) apps = apps_changed name t.children apps
supervisors_changed name t apps = apps

-- what one change of code does to the processes of the module, and to its supervisors by what is loaded
abbrev pub changed_once : Site → Direction → ChangeForm → Run → Run
changed_once s mode c r =
    record (processes_changed s mode c r) { apps = supervisors_changed c.name (tables_among r.modules c.name) r.apps }

-- what several changes of code do, one after another
abbrev pub changed : Site → Direction → List ChangeForm → Run → Run
changed s mode [] r = r
changed s mode (c ∷ cs) r = changed s mode cs (changed_once s mode c r)

-- the direction of a change of code, which is up where it has no mode
abbrev pub mode_of : Option Direction → Direction
mode_of None = Up
mode_of (Some d) = d

-- an operation on the processes of several modules, one module after another
abbrev pub on_each : Operation → List (List ℕ) → ModulesBySlot → Courses → Courses
on_each op [] users cs = cs
on_each op (n ∷ ns) users cs = on_each op ns users (on_module users n op cs)

-- the modules whose processes are suspended
abbrev pub suspended_in : List SuspensionForm → List (List ℕ)
suspended_in ss = map (λ (x : SuspensionForm). x.name) ss

-- the library of an application of the release to which the script leads
abbrev pub target_library : Site → List ℕ → Option Library
target_library s name = find (λ (l : Library). bytes_eq l.app.name name) s.target

abbrev pub scene_of : Run → Scene
scene_of r = record { values = r.values; apps = r.apps; courses = r.courses }

abbrev pub with_scene : Run → Scene → Run
with_scene r s = record r { apps = s.apps; courses = s.courses }

-- an application of this library is started, unless it is
abbrev pub started_from : Option Library → Run → Run
started_from None r = r
started_from (Some l) r =
    if is_some (app_named l.app.name r.apps) then r
    else with_scene r (with_started l.app.name l.app.top (tables_among r.modules) (scene_of r))

abbrev pub called_after : Site → AppCall → Run → Run
called_after s (starts name) r = started_from (target_library s name) r
called_after s (stops name) r = with_scene r (with_stopped name (scene_of r))
called_after s idle r = r

-- whether a call leaves the child that it is on as it is, where the histories that the handler has seen leave this: it is up, or
-- there is none; or, where it is to begin again, its process began as a temporary one and still stands
abbrev pub child_stays_at : Values → ChildCall → Run → Bool
child_stays_at seen (deletes super id) r = child_stays stay.Up (now_in seen r.courses) (child_place super id r.apps)
child_stays_at seen (restarts super id) r = child_stays stay.UpOrTemporary (now_in seen r.courses) (child_place super id r.apps)
child_stays_at seen c r = false

-- the child at this place begins again
abbrev pub restarted_at : List ℕ → List ℕ → Option Place → Run → Run
restarted_at super id None r = r
restarted_at super id (Some p) r = with_scene r (with_restarted super id (tables_among r.modules) p (scene_of r))

-- a call on a child of a supervisor that stays, or doesn't
abbrev pub child_after : ChildCall → Bool → Run → Run
child_after (terminates super id) stays r = with_scene r (with_terminated super id (scene_of r))
child_after (deletes super id) stays r = if stays then r else with_scene r (with_deleted super id (scene_of r))
child_after (restarts super id) stays r = if stays then r else restarted_at super id (child_place super id r.apps) r
child_after nothing stays r = r

-- a call on an application, or on a child of a supervisor
abbrev pub call_after : Site → CallForm → Bool → Run → Run
call_after s c stays r = if is_on_child c then child_after (child_call c) stays r else called_after s (app_call c) r

-- whether an instruction leaves the child that it is on as it is
abbrev pub stays_at : Values → Instruction → Run → Bool
stays_at seen (apply c) r = if is_on_child c then child_stays_at seen (child_call c) r else false
stays_at seen i r = false

-- What an instruction does that doesn't fail. Before the point of no return a load keeps what it holds until the point. stays: the
-- child that it is on is left as it is.
abbrev pub run_after : Site → Bool → Bool → Instruction → Run → Run
run_after s early stays (load_object_code f) r = record r { fetched = fetched_from (library_for s f) f.modules r.fetched }
run_after s early stays point_of_no_return r = with_courses r (λ users. on_all course.Operation.pass_point)
run_after s early stays (suspend ss) r = with_courses r (on_each course.Operation.suspend (suspended_in ss))
run_after s early stays (load p) r = loaded_after early p.name (module_named p.name r.fetched) r
run_after s early stays (code_change c) r = changed s (mode_of c.mode) c.changes r
run_after s early stays (resume names) r = with_courses r (on_each course.Operation.resume names)
run_after s early stays (remove p) r = record r { modules = without_module p.name r.modules }
run_after s early stays (stop names) r = with_courses r (on_each course.Operation.stop names)
run_after s early stays (start names) r = with_courses r (on_each course.Operation.start names)
run_after s early stays (apply c) r = call_after s c stays r
run_after s early stays i r = r

-- an operation that was done to the processes of so many of these modules, and of the next one to those in the slots below this
abbrev pub each_within : Operation → List (List ℕ) → ℕ → ℕ → ModulesBySlot → Courses → Courses
each_within op [] n slot users cs = cs
each_within op (m ∷ ms) zero slot users cs = part_way slot users m op cs
each_within op (m ∷ ms) (suc n) slot users cs = each_within op ms n slot users (on_module users m op cs)

abbrev pub load_within : Bool → List ℕ → Option WorkerTable → ℕ → ModulesBySlot → Courses → Courses
load_within keep name None slot users cs = cs
load_within keep name (Some w) slot users cs = part_way slot users name (course.Operation.load keep w) cs

abbrev pub change_within : List ℕ → Option OldVersion → ChangeForm → ℕ → ModulesBySlot → Courses → Courses
change_within name None c slot users cs = cs
change_within name (Some old) c slot users cs = part_way slot users name (course.Operation.change old c.extra) cs

abbrev pub changed_within : Site → Direction → List ChangeForm → ℕ → ℕ → Run → Courses
changed_within s mode [] n slot r = r.courses
changed_within s mode (c ∷ cs) zero slot r = change_within c.name (old_version s mode c.name r) c slot (modules_by_slot_in r) r.courses
changed_within s mode (c ∷ cs) (suc n) slot r = changed_within s mode cs n slot (changed_once s mode c r)

-- What stood for a child that doesn't begin again was given up, or nothing was done yet.
abbrev pub child_within : ChildCall → ℕ → Run → Courses
child_within (restarts super id) (suc n) r = child_ended (scene_of r) (child_place super id r.apps)
child_within c n r = r.courses

abbrev pub call_within : CallForm → ℕ → Run → Courses
call_within c n r = if is_on_child c then child_within (child_call c) n r else r.courses

-- The courses where an instruction failed: it was done for so many of its modules, and for the next one in the slots below this. A
-- call that fails after the point was done for one where what stood for its child was given up.
abbrev pub courses_within : Site → Bool → Instruction → ℕ → ℕ → Run → Courses
courses_within s early (suspend ss) n slot r = each_within course.Operation.suspend (suspended_in ss) n slot (modules_by_slot_in r) r.courses
courses_within s early (load p) n slot r = load_within early p.name (worker_in (module_named p.name r.fetched)) slot (modules_by_slot_in r) r.courses
courses_within s early (code_change c) n slot r = changed_within s (mode_of c.mode) c.changes n slot r
courses_within s false (apply c) n slot r = call_within c n r
courses_within s early i n slot r = r.courses

-- The modules of processes have versions: right after a boot, and after calls or a script.
use Rattle.std.proofs.Common.{◌≡◌, ℕ, Bool, true, false, List, [], ◌∷◌, Option, Some, None, refl, sym, subst, ◌+◌, ◌&&◌, not, if◌then◌else◌, reverse, is_some}
use Rattle.std.specs.List.{AllByRecursion, slice_get}
use Rattle.std.specs.Str.{bytes_eq}
use Rattle.rel_files.specs.Name.{IsVersion}
use Rattle.rel_list.specs.Releases.{Releases, Entry}
use Rattle.library.specs.Library.{Library, IsLibrary}
use Rattle.rel_check.specs.Modules.{Part, parts}
use Rattle.mod_table.specs.Tables.{Tables}
use Rattle.loaded_modules.specs.Loaded.{Module, NamedModules, module_named}
use Rattle.started_members.specs.Begins.{beginning_of, specification}
use Rattle.app_members.specs.Walk.{app_starts}
use Rattle.proc_history.specs.declared.beginning.Beginning.{Beginning}
use Rattle.proc_history.specs.declared.value.Now.{Now}
use Rattle.proc_history.specs.declared.value.Outcome.{Outcome}
use Rattle.proc_history.specs.declared.value.Value.{Value}
use Rattle.proc_history.specs.Events as history
use Rattle.proc_history.specs.Values.{nothing, up_in, after}
use Rattle.proc_table.specs.declared.pid.Pid.{Pid}
use Rattle.node_processes.specs.Answers.{outcome_at, value_at, behind_call, called_at, called}
use Rattle.node_processes.specs.Calls.{Calls, left_by}
use Rattle.node_processes.specs.Calls.Calls.{once, often}
use Rattle.node_processes.specs.Floods.{after_calls, flooded, flooded_at, outcomes_at}
use Rattle.node_processes.specs.Fresh.{started_parts, part_starts, part_beginnings, beginnings, first_value, first_values, tables_in, fresh_entry, running_entry, fresh_processes}
use Rattle.node_processes.specs.Processes.{Processes, process_named}
use Rattle.node_processes.specs.ModuleVersions.{HasModuleVersion, HaveModuleVersions}
use Rattle.relup_instruction.specs.declared.instruction.Direction.{Direction}
use Rattle.relup_instruction.specs.Instruction.{CallForm, ChangeForm, Instruction}
use Rattle.relup_instruction.specs.Instruction as relup
use Rattle.relup_file.specs.Script.{is_point}
use Rattle.started_members.specs.Places.{Place}
use Rattle.sup_tree.specs.Children.{child_members, child_place}
use Rattle.sup_tree.specs.Restarts.{super_app}
use Rattle.sup_tree.specs.Tree.{App, app_named, app_pids}
use Rattle.started_members.specs.Members.{pids_of, processes_among}
use Rattle.held_processes.specs.Applications.{all_stopped, held_ended, places_for, with_started, with_stopped_app}
use Rattle.held_processes.specs.Children.{child_pids, with_deleted}
use Rattle.held_processes.specs.Restarts.{child_ended, restart_pids, restart_starts}
use Rattle.held_processes.specs.Course.{Courses, added, course_after}
use Rattle.held_processes.specs.Course as course
use Rattle.script_progress.specs.Fault.{Cause, fault}
use Rattle.script_progress.specs.Script.{Run, Site, call_after, called_after, changed, changed_once, child_after, library_for, mode_of, old_version, restarted_at, run_after, scene_of, started_from, stays_at, suspended_in, tables_among, target_library, modules_by_slot_in, with_scene, worker_in}
use Rattle.script_progress.specs.Calls.{AppCall, ChildCall, app_call, child_call, is_on_child}
use Rattle.script_progress.specs.Calls.AppCall.{starts, stops, idle}
use Rattle.script_progress.specs.Calls.ChildCall.{terminates, deletes, restarts, nothing as no_end}
use Rattle.relup_exec.specs.Alone.{fails_at, outcome, outcome_from, step_alone, unless_fault, values_alone}
use Rattle.relup_exec.specs.Alone.Outcome.{ends}
use Rattle.node_processes.specs.Scripts.{behind_run, ended_run, run_on}
use Rattle.node_processes.proofs.EventVersions.{begun_version, after_version, replay_versions, added_versions, worker_version, course_versions, AllVersions, each_courses, load_versions, change_versions, begun_versions, ended_versions, given_up_versions}
use Rattle.node_processes.proofs.RunningEntry.{running_found}
use Rattle.node_processes.proofs.TableVersions.{OrNone, each_set, each_got, each_mapped, each_image, each_flat, each_kept, HasNamedVersion, listed_versions, HaveTableVersions, module_table, table_versions, StartsVersion, child_starts_versions, start_versions, HaveVersions, found_version, with_versions, from_versions, library_is}
pub use Rattle.node_processes.proofs.EventVersions.{nothing_version}
pub use Rattle.node_processes.proofs.TableVersions.{AreWithLibraries, each_at}

abbrev BeginsVersion : Beginning → Type 0
BeginsVersion b = IsVersion b.table.vsn

beginning_versions : (tables : Tables) → HaveTableVersions tables → (ps : List Part) → AllByRecursion BeginsVersion (beginnings tables ps)
beginning_versions tables versions ps = each_flat BeginsVersion (part_beginnings tables) (λ p.
    each_image BeginsVersion StartsVersion (beginning_of p.library.app.name) (λ s version. version) (part_starts tables p) (start_versions tables versions p.library.app.top)) ps

-- The processes right after a boot have versions of files.
first_version : (o : Option Beginning) → OrNone BeginsVersion o → HasModuleVersion (first_value o)
first_version None version n is = absurd cc
first_version (Some b) version n is = begun_version b n version is

first_versions : (bs : List Beginning) → AllByRecursion BeginsVersion bs → AllByRecursion HasModuleVersion (first_values bs)
first_versions bs all = each_mapped HasModuleVersion (λ i. first_value (slice_get bs i)) (λ i. first_version (slice_get bs i) (each_got BeginsVersion bs i all)) _

pub fresh_versions : (es : Releases) → AreWithLibraries es → HaveModuleVersions (fresh_processes es)
fresh_versions es all = go (running_entry es) refl
  where
    go : (o : Option Entry) → running_entry es ≡ o → HaveModuleVersions (fresh_entry o)
    go None is = record {
      values = first_versions (beginnings (tables_in []) (started_parts (parts [] []))) (beginning_versions (tables_in []) (table_versions [] tt) (started_parts (parts [] [])));
      modules = tt;
    }
    go (Some e) is =
        let of = running_found (λ (f : Entry). AllByRecursion IsLibrary f.libraries) es e all is in
        record {
          values = first_versions (beginnings (tables_in e.libraries) (started_parts (parts e.release.apps e.libraries)))
              (beginning_versions (tables_in e.libraries) (table_versions e.libraries of) (started_parts (parts e.release.apps e.libraries)));
          modules = listed_versions [] e.libraries tt of;
        }

called_versions : (app id : List ℕ) (input : ℕ) (ps : Processes) → HaveModuleVersions ps → HaveModuleVersions (called app id input ps)
called_versions app id input ps all = go (process_named app id ps)
  where
    by_now : (p : Pid) (o : Option Now) → HaveModuleVersions (behind_call input ps p o)
    by_now p None = all
    by_now p (Some n) = record {
      values = each_set HasModuleVersion ps.values p.slot (after (value_at ps p) (history.Event.call input (outcome_at n input))) all.values
          (after_version (value_at ps p) (history.Event.call input (outcome_at n input)) tt (each_at HasModuleVersion ps.values p.slot nothing all.values nothing_version));
      modules = all.modules;
    }

    go : (o : Option Pid) → HaveModuleVersions (called_at input ps o)
    go None = all
    go (Some p) = by_now p (up_in p.round (value_at ps p))

calls_version : (input : ℕ) (os : List Outcome) (v : Value) → HasModuleVersion v → HasModuleVersion (after_calls input os v)
calls_version input [] v is = is
calls_version input (o ∷ os) v is =
    calls_version input os (after v (history.Event.call input o)) (after_version v (history.Event.call input o) tt is)

flooded_versions : (app id : List ℕ) (input times : ℕ) (ps : Processes) → HaveModuleVersions ps → HaveModuleVersions (flooded app id input times ps)
flooded_versions app id input times ps all = go (process_named app id ps)
  where
    go : (o : Option Pid) → HaveModuleVersions (flooded_at input times ps o)
    go None = all
    go (Some p) = record {
      values = each_set HasModuleVersion ps.values p.slot (after_calls input (outcomes_at input times ps p) (value_at ps p)) all.values
          (calls_version input (outcomes_at input times ps p) (value_at ps p) (each_at HasModuleVersion ps.values p.slot nothing all.values nothing_version));
      modules = all.modules;
    }

pub left_versions : (c : Calls) (ps : Processes) → HaveModuleVersions ps → HaveModuleVersions (left_by c ps)
left_versions (once app id input) ps all = called_versions app id input ps all
left_versions (often app id input times) ps all = flooded_versions app id input times ps all

-- What was done so far: the modules and the processes of it have versions.
record RunVersions (r : Run) : Type 0 where
  fetched : HaveVersions r.fetched
  modules : HaveVersions r.modules
  values : (p : ℕ) → HasModuleVersion (r.values p)
  courses : AllVersions r.courses

with_courses_versions : (r : Run) (cs : Courses) → RunVersions r → AllVersions cs → RunVersions (record r { courses = cs })
with_courses_versions r cs v all = record { fetched = v.fetched; modules = v.modules; values = v.values; courses = all }

changed_versions : (s : Site) (mode : Direction) (cs : List ChangeForm) (r : Run) → RunVersions r → RunVersions (changed s mode cs r)
changed_versions s mode [] r v = v
changed_versions s mode (c ∷ cs) r v =
    changed_versions s mode cs (changed_once s mode c r) (record {
      fetched = v.fetched;
      modules = v.modules;
      values = v.values;
      courses = change_versions c.name (old_version s mode c.name r) c (modules_by_slot_in r) r.courses v.courses;
    })

among_versions : (ms : NamedModules) → HaveVersions ms → HaveTableVersions (tables_among ms)
among_versions ms all name = module_table (module_named name ms) (found_version name ms all)

started_versions : (o : Option Library) (r : Run) → RunVersions r → RunVersions (started_from o r)
started_versions None r v = v
started_versions (Some l) r v = by (is_some (app_named l.app.name r.apps))
  where
    by : (b : Bool) → RunVersions (if b then r else with_scene r (with_started l.app.name l.app.top (tables_among r.modules) (scene_of r)))
    by true = v
    by false =
        let tables = tables_among r.modules in
        let ss = app_starts tables l.app.top in record {
          fetched = v.fetched;
          modules = v.modules;
          values = v.values;
          courses = begun_versions l.app.name ss (places_for tables l.app.top (scene_of r)) r.courses
              (start_versions tables (among_versions r.modules v.modules) l.app.top) v.courses;
        }

-- where these processes end
all_ended_versions : (pids : List Pid) (r : Run) → RunVersions r → AllVersions (all_stopped r.values pids r.courses)
all_ended_versions pids r v = ended_versions r.values (reverse pids) (held_ended pids r.courses) (given_up_versions pids r.courses v.courses)

stopped_versions : (name : List ℕ) (o : Option App) (r : Run) → RunVersions r → RunVersions (with_scene r (with_stopped_app name o (scene_of r)))
stopped_versions name None r v = record { fetched = v.fetched; modules = v.modules; values = v.values; courses = v.courses }
stopped_versions name (Some a) r v = record { fetched = v.fetched; modules = v.modules; values = v.values; courses = all_ended_versions (app_pids a) r v }

called_run : (s : Site) (c : AppCall) (r : Run) → RunVersions r → RunVersions (called_after s c r)
called_run s (starts name) r v = started_versions (target_library s name) r v
called_run s (stops name) r v = stopped_versions name (app_named name r.apps) r v
called_run s idle r v = v

restarted_versions : (super id : List ℕ) (o : Option Place) (r : Run) → RunVersions r → RunVersions (restarted_at super id o r)
restarted_versions super id None r v = v
restarted_versions super id (Some p) r v =
    let tables = tables_among r.modules in record {
      fetched = v.fetched;
      modules = v.modules;
      values = v.values;
      courses = begun_versions (super_app super r.apps) (restart_starts tables p) (restart_pids tables p (scene_of r)) (child_ended (scene_of r) (Some p))
          (child_starts_versions tables (among_versions r.modules v.modules) p.child.depth (specification p.child)) (all_ended_versions (child_pids (Some p)) r v);
    }

one_of_runs : (b : Bool) (q r : Run) → RunVersions q → RunVersions r → RunVersions (if b then q else r)
one_of_runs true q r v w = v
one_of_runs false q r v w = w

child_run : (c : ChildCall) (b : Bool) (r : Run) → RunVersions r → RunVersions (child_after c b r)
child_run (terminates super id) b r v =
    record { fetched = v.fetched; modules = v.modules; values = v.values; courses = all_ended_versions (pids_of (processes_among (child_members super id r.apps))) r v }
child_run (deletes super id) b r v =
    one_of_runs b r (with_scene r (with_deleted super id (scene_of r))) v
    (record { fetched = v.fetched; modules = v.modules; values = v.values; courses = all_ended_versions (child_pids (child_place super id r.apps)) r v })
child_run (restarts super id) b r v =
    one_of_runs b r (restarted_at super id (child_place super id r.apps) r) v (restarted_versions super id (child_place super id r.apps) r v)
child_run no_end b r v = v

call_run : (s : Site) (c : CallForm) (b : Bool) (r : Run) → RunVersions r → RunVersions (call_after s c b r)
call_run s c b r v =
    one_of_runs (is_on_child c) (child_after (child_call c) b r) (called_after s (app_call c) r) (child_run (child_call c) b r v) (called_run s (app_call c) r v)

-- an instruction keeps that
step_versions : (s : Site) (early b : Bool) (i : Instruction) (r : Run) → AreWithLibraries s.releases → RunVersions r → RunVersions (run_after s early b i r)
step_versions s early b (relup.Instruction.load_object_code f) r libraries v =
    record { fetched = from_versions (library_for s f) f.modules r.fetched (library_is s.releases f.app f.vsn libraries) v.fetched; modules = v.modules; values = v.values; courses = v.courses }
step_versions s early b relup.Instruction.point_of_no_return r libraries v = with_courses_versions r _ v (λ p. course_versions course.Operation.pass_point (r.courses p) tt (v.courses p))
step_versions s early b (relup.Instruction.suspend ss) r libraries v = with_courses_versions r _ v (each_courses course.Operation.suspend (suspended_in ss) (modules_by_slot_in r) r.courses tt v.courses)
step_versions s early b (relup.Instruction.load p) r libraries v =
    let m = module_named p.name r.fetched in
    let version = found_version p.name r.fetched v.fetched in record {
      fetched = v.fetched;
      modules = with_versions m p.name r.modules version v.modules;
      values = v.values;
      courses = load_versions early p.name (worker_in m) (modules_by_slot_in r) r.courses (worker_version _ (module_table m version)) v.courses;
    }
step_versions s early b (relup.Instruction.code_change c) r libraries v = changed_versions s (mode_of c.mode) c.changes r v
step_versions s early b (relup.Instruction.resume names) r libraries v = with_courses_versions r _ v (each_courses course.Operation.resume names (modules_by_slot_in r) r.courses tt v.courses)
step_versions s early b (relup.Instruction.remove p) r libraries v =
    record { fetched = v.fetched; modules = each_kept HasNamedVersion (λ (m : List ℕ × Module). not (bytes_eq p.name m.0)) r.modules v.modules; values = v.values; courses = v.courses }
step_versions s early b (relup.Instruction.stop names) r libraries v = with_courses_versions r _ v (each_courses course.Operation.stop names (modules_by_slot_in r) r.courses tt v.courses)
step_versions s early b (relup.Instruction.start names) r libraries v = with_courses_versions r _ v (each_courses course.Operation.start names (modules_by_slot_in r) r.courses tt v.courses)
step_versions s early b (relup.Instruction.apply c) r libraries v = call_run s c b r v
step_versions s early b i r libraries v = v

not_ended : (early : Bool) (n : ℕ) (c : Cause) (r : Run) → fails_at early n c ≡ ends r → ⊥
not_ended true n c r is = cc
not_ended false n c r is = cc

-- After a script that was carried out, processes and modules have versions of files.
ended_run_versions : (s : Site) (early : Bool) (n : ℕ) (is : List Instruction) (r q : Run) → AreWithLibraries s.releases → RunVersions r → outcome_from s early n is r ≡ ends q → RunVersions q
ended_run_versions s early n [] r q libraries v e = let same : r ≡ q = cc in subst RunVersions same v
ended_run_versions s early n (i ∷ is) r q libraries v e =
    by (fault s (values_alone r) r i)
    (ended_run_versions s (early && not (is_point i)) (n + 1) is (step_alone s early i r) q libraries (step_versions s early (stays_at (values_alone r) i r) i r libraries v)) e
  where
    by : (o : Option Cause) → (outcome_from s (early && not (is_point i)) (n + 1) is (step_alone s early i r) ≡ ends q → RunVersions q)
        → unless_fault o early (n + 1) (outcome_from s (early && not (is_point i)) (n + 1) is (step_alone s early i r)) ≡ ends q → RunVersions q
    by None behind is = behind is
    by (Some c) behind is = absurd (not_ended early (n + 1) c q is)

-- The modules of the processes after a script have versions.
pub script_versions : (s : Site) (ps : Processes) (script : List Instruction) (r : Run) → AreWithLibraries s.releases → s.loaded ≡ ps.modules → HaveModuleVersions ps
    → outcome s (run_on s ps) script ≡ ends r → HaveModuleVersions (behind_run r)
script_versions s ps script r libraries loaded all e =
    let began : RunVersions (run_on s ps) = record {
      fetched = tt;
      modules = subst HaveVersions (sym loaded) all.modules;
      values = λ p. each_at HasModuleVersion ps.values p nothing all.values nothing_version;
      courses = λ p. record { blocks = tt; pending = tt };
    } in
    let v = ended_run_versions s true 0 script (run_on s ps) r libraries began e in record {
      values = each_mapped HasModuleVersion (values_alone (ended_run r)) (λ p.
          replay_versions (r.values p) (added (course_after course.Operation.finish (r.courses p)).blocks) (v.values p)
          (added_versions (course_after course.Operation.finish (r.courses p)).blocks (course_versions course.Operation.finish (r.courses p) tt (v.courses p)).blocks)) _;
      modules = v.modules;
    }

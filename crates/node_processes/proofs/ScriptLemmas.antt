-- What comes of a script goes by what stands in the slots, and is what the handler carries out where nobody else sits at the table.
use Rattle.std.proofs.Common.{◌≡◌, ◌≢◌, ℕ, zero, suc, ◌+◌, ◌<◌, ◌≤◌, ◌==◌, Bool, true, false, ◌&&◌, ◌||◌, not, if◌then◌else◌, List, [], ◌∷◌, ◌++◌, length, map, reverse, Option, Some, None, is_some, refl, ap, ap₂, sym, ◌∙◌, arith, append-nil}
use Rattle.std.specs.List.{range_with_len}
use Rattle.std.specs.Option.{option_or}
use Rattle.std.proofs.lemmas.Bool.Decides.{nat_tests}
use Rattle.std.proofs.lemmas.List.{ext_get_or}
use Rattle.std.proofs.lemmas.List.FromFn.{get_or-map-range_with_len, length-map-range_with_len}
use Rattle.library.specs.Library.{Library}
use Rattle.worker_table.specs.Table.{OldVersion}
use Rattle.proc_history.specs.declared.value.Value.{Value}
use Rattle.proc_history.specs.Changes.{finds_row}
use Rattle.proc_history.specs.Events.Event.{given_up}
use Rattle.proc_history.specs.Histories.{replay, replay_from}
use Rattle.proc_history.specs.Values.{nothing, next_round}
use Rattle.proc_history.proofs.Entries.{replay-append}
use Rattle.proc_table.specs.declared.pid.Pid.{Pid}
use Rattle.proc_table.specs.declared.view.View.{View}
use Rattle.proc_table.specs.Agrees.{slots}
use Rattle.proc_table.specs.Views.{seen}
use Rattle.relup_instruction.specs.declared.instruction.Direction.{Direction}
use Rattle.relup_instruction.specs.declared.instruction.Direction.TheVariants.{Up, Down}
use Rattle.relup_instruction.specs.Instruction.{CallForm, ChangeForm, Instruction}
use Rattle.relup_instruction.specs.Instruction.Instruction.{apply, code_change, remove}
use Rattle.relup_file.specs.Script.{is_error, is_point}
use Rattle.mod_table.specs.Tables.{Tables}
use Rattle.loaded_modules.specs.Loaded.{NamedModules}
use Rattle.started_members.specs.declared.looks.Stay.TheVariants as stay
use Rattle.started_members.specs.Places.{Place, in_place}
use Rattle.sup_tree.specs.Children.{apps_with, child_deleted, child_members, child_place, child_terminated}
use Rattle.started_members.specs.Begins.{restart_fault, restart_members, members_at}
use Rattle.sup_tree.specs.Restarts.{super_app}
use Rattle.started_members.specs.Ends.{stands}
use Rattle.sup_tree.specs.Tree.{App, app_named, app_pids, supervises, without}
use Rattle.started_members.specs.Members.{pids_of, processes_among}
use Rattle.app_members.specs.Walk.{app_fault, app_members, app_starts}
use Rattle.held_processes.specs.Applications.{all_begun, all_ended, ended_at, held_ended, known, lowest, lowest_below, match_pid, pid_at, pids_for, room_in, round_in, rounds_below, taken_at, with_started, with_stopped_app}
use Rattle.held_processes.specs.Children.{child_pids, with_deleted}
use Rattle.held_processes.specs.Course.{Courses, add_alone, added, course_after, if_held, on_all, opening}
use Rattle.held_processes.specs.Course.Operation.{finish}
use Rattle.held_processes.specs.Following.{AreUntouched}
use Rattle.held_processes.specs.Operations.{Values, is_held_user, now_in, values_seen}
use Rattle.held_processes.specs.Restarts.{child_ended, restart_pids, restart_starts}
use Rattle.held_processes.proofs.AnyLemmas.{any_alike}
use Rattle.held_processes.proofs.CourseLemmas.{blocks_alone}
use Rattle.script_progress.specs.Script.{Run, Site, began, call_after, called_after, changed, changed_once, child_after, child_stays_at, mode_of, old_version, restarted_at, run_after, scene_of, started_from, stays_at, tables_among, target_library, modules_by_slot_in, with_scene}
use Rattle.script_progress.specs.Calls.{AppCall, ChildCall, app_call, child_call, is_on_child}
use Rattle.script_progress.specs.Calls.AppCall.{starts, stops, idle}
use Rattle.script_progress.specs.Calls.ChildCall.{terminates, deletes, restarts, nothing as no_end}
use Rattle.script_progress.specs.Fault.{Cause, app_call_fault, call_fault, change_fault, child_call_fault, error_cause, fault, is_stuck, restart_fault_at, start_fault, start_fault_or, super_fault_or}
use Rattle.script_progress.specs.Fault.Cause.{in_use, no_change, no_memory}
use Rattle.relup_exec.specs.Alone.{Outcome, outcome, outcome_from, step_alone, unless_fault, values_alone}
use Rattle.relup_exec.specs.Alone.Outcome.{ends, refuses, breaks}
use Rattle.relup_exec.specs.Outcome.{IsBroken, IsFinished, IsRefused, Start, began_at, run_behind}
use Rattle.relup_exec.proofs.AloneLemmas.{Alike, has_one_outcome, now_alike, place_alike, uses_alike}
use Rattle.relup_exec.proofs.RunLemmas.{step_values}
use Rattle.node_processes.specs.InMemory.{values_in}
use Rattle.node_processes.specs.Scripts.{behind_run, ended_run, run_on, values_of}
use Rattle.node_processes.proofs.CommandLemmas.{node}
use Rattle.node_processes.proofs.SlotLemmas.{value_there}

-- what was done, had this stood in the slots
abbrev pub with_values : Values → Run → Run
with_values g r = record r { values = g }

abbrev pub map_outcome : (Run → Run) → Outcome → Outcome
map_outcome f (ends r) = ends (f r)
map_outcome f (refuses n c) = refuses n c
map_outcome f (breaks n c) = breaks n c

-- Where a process can begin goes by the rounds of the slots.

abbrev AgreeBelow : ℕ → (ℕ → Option ℕ) → (ℕ → Option ℕ) → Type 0
AgreeBelow n a b = (p : ℕ) → p < n → a p ≡ b p

rounds_alike : (a b : ℕ → Option ℕ) (n : ℕ) → AgreeBelow n a b → rounds_below a n ≡ rounds_below b n
rounds_alike a b zero same = refl
rounds_alike a b (suc n) same =
    let rest = rounds_alike a b n (λ p below. same p (omega (arith, below))) in
    let here : a n ≡ b n = same n (omega arith) in
    λ j. rest j + (if is_some (here j) then 1 else 0)

either_alike : (a b c d : Option Pid) → a ≡ c → b ≡ d → option_or a b ≡ option_or c d
either_alike a b c d one other = λ j. option_or (one j) (other j)

lowest_alike : (a b : ℕ → Option ℕ) (n : ℕ) (few : n ≤ slots) → AgreeBelow n a b → lowest_below a n few ≡ lowest_below b n few
lowest_alike a b zero few same = refl
lowest_alike a b (suc n) few same =
    either_alike _ _ _ _ (lowest_alike a b n _ (λ p below. same p (omega (arith, below)))) (ap (pid_at n _) (same n (omega arith)))

taken_alike : (slot : ℕ) (a b : ℕ → Option ℕ) → AgreeBelow slots a b → AgreeBelow slots (taken_at slot a) (taken_at slot b)
taken_alike slot a b same p inside = ap (λ (x : Option ℕ). if p == slot then None else x) (same p inside)

pids_alike : (n : ℕ) (a b : ℕ → Option ℕ) → AgreeBelow slots a b → pids_for n a ≡ pids_for n b
pids_alike zero a b same = refl
pids_alike (suc n) a b same =
    let low : lowest a ≡ lowest b = lowest_alike a b slots _ same in
    λ j. match_pid (low j) (λ pid. pid ∷ pids_alike n (taken_at pid.slot a) (taken_at pid.slot b) (taken_alike pid.slot a b same) j)

module _ (f g : Values) (same : Alike f g) where
  round_alike : (cs : Courses) → AgreeBelow slots (round_in f cs) (round_in g cs)
  round_alike cs p inside = ap (λ (x : Value). if_held (cs p).hold None (next_round (replay_from x (added (cs p).blocks ++ (cs p).pending)))) (same p inside)

  room_alike : (cs : Courses) → room_in f cs ≡ room_in g cs
  room_alike cs = rounds_alike (round_in f cs) (round_in g cs) slots (round_alike cs)

  -- Values that are alike give the same courses after the end of a process.
  ended_once : (pid : Pid) (cs : Courses) → ended_at f pid cs ≡ ended_at g pid cs
  ended_once pid cs = λ j p. at p (p == pid.slot) refl j
    where
      there : (p : ℕ) → (p == pid.slot) ≡ true → p < slots
      there p is = let inside = pid.inside in grind (arith, nat_tests)

      at : (p : ℕ) (b : Bool) → (p == pid.slot) ≡ b
          → (if b then (if stands pid (known f cs p) then add_alone given_up (cs p) else cs p) else cs p)
          ≡ (if b then (if stands pid (known g cs p) then add_alone given_up (cs p) else cs p) else cs p)
      at p true is = ap (λ (x : Value). if stands pid (replay_from x (added (cs p).blocks ++ (cs p).pending)) then add_alone given_up (cs p) else cs p) (same p (there p is))
      at p false is = refl

  ended_alike : (pids : List Pid) (cs : Courses) → all_ended f pids cs ≡ all_ended g pids cs
  ended_alike [] cs = refl
  ended_alike (pid ∷ pids) cs = ap (all_ended f pids) (ended_once pid cs) ∙ ended_alike pids (ended_at g pid cs)

-- what an instruction does
changed_alike : (s : Site) (mode : Direction) (cs : List ChangeForm) (g : Values) (r : Run) → changed s mode cs (with_values g r) ≡ with_values g (changed s mode cs r)
changed_alike s Up [] g r = refl
changed_alike s Down [] g r = refl
changed_alike s Up (c ∷ cs) g r = changed_alike s Up cs g (changed_once s Up c r)
changed_alike s Down (c ∷ cs) g r = changed_alike s Down cs g (changed_once s Down c r)

module _ (g : Values) (r : Run) (same : Alike r.values g) where
  begun_alike : (name : List ℕ) (top : Option (List ℕ)) (tables : Tables)
      → with_scene (with_values g r) (with_started name top tables (scene_of (with_values g r))) ≡ with_values g (with_scene r (with_started name top tables (scene_of r)))
  begun_alike name top tables =
      let ss = app_starts tables top in
      let pids = sym (pids_alike (length ss) (round_in r.values r.courses) (round_in g r.courses) (round_alike r.values g same r.courses)) in
      λ j. record {
        fetched = r.fetched;
        modules = r.modules;
        apps = r.apps ++ record { name = name; members = members_at (app_members tables top) (pids j) } ∷ [];
        values = g;
        courses = all_begun name ss (pids j) r.courses;
      }

  started_alike : (l : Option Library) → started_from l (with_values g r) ≡ with_values g (started_from l r)
  started_alike None = refl
  started_alike (Some l) =
      by (is_some (app_named l.app.name r.apps)) _ (with_scene r (with_started l.app.name l.app.top (tables_among r.modules) (scene_of r)))
      (begun_alike l.app.name l.app.top (tables_among r.modules))
    where
      by : (b : Bool) (x y : Run) → x ≡ with_values g y → (if b then with_values g r else x) ≡ with_values g (if b then r else y)
      by true x y is = refl
      by false x y is = is

  stopped_alike : (name : List ℕ) (o : Option App) → with_scene (with_values g r) (with_stopped_app name o (scene_of (with_values g r))) ≡ with_values g (with_scene r (with_stopped_app name o (scene_of r)))
  stopped_alike name None = refl
  stopped_alike name (Some a) =
      let pids = app_pids a in
      let all = sym (ended_alike r.values g same (reverse pids) (held_ended pids r.courses)) in
      λ j. record { fetched = r.fetched; modules = r.modules; apps = without name r.apps; values = g; courses = all j }

  called_alike : (s : Site) (c : AppCall) → called_after s c (with_values g r) ≡ with_values g (called_after s c r)
  called_alike s (starts name) = started_alike (target_library s name)
  called_alike s (stops name) = stopped_alike name (app_named name r.apps)
  called_alike s idle = refl

  one_alike : (b : Bool) (x y z w : Run) → x ≡ with_values g y → z ≡ with_values g w → (if b then x else z) ≡ with_values g (if b then y else w)
  one_alike true x y z w is others = is
  one_alike false x y z w is others = others

  child_ended_alike : (o : Option Place) → child_ended (scene_of r) o ≡ child_ended (scene_of (with_values g r)) o
  child_ended_alike o = ended_alike r.values g same (reverse (child_pids o)) (held_ended (child_pids o) r.courses)

  restarted_alike : (super id : List ℕ) (o : Option Place) → restarted_at super id o (with_values g r) ≡ with_values g (restarted_at super id o r)
  restarted_alike super id None = refl
  restarted_alike super id (Some p) =
      let tables = tables_among r.modules in
      let ss = restart_starts tables p in
      let cs = child_ended (scene_of r) (Some p) in
      let all = sym (child_ended_alike (Some p)) in
      let pids : restart_pids tables p (scene_of (with_values g r)) ≡ restart_pids tables p (scene_of r) =
      ap (λ (ds : Courses). pids_for (length ss) (round_in g ds)) all ∙ sym (pids_alike (length ss) (round_in r.values cs) (round_in g cs) (round_alike r.values g same cs)) in
      λ j. record {
        fetched = r.fetched;
        modules = r.modules;
        apps = apps_with (in_place (members_at (restart_members tables p.child) (pids j))) super id r.apps;
        values = g;
        courses = all_begun (super_app super r.apps) ss (pids j) (all j);
      }

  child_alike : (c : ChildCall) (b : Bool) → child_after c b (with_values g r) ≡ with_values g (child_after c b r)
  child_alike (terminates super id) b =
      let pids = pids_of (processes_among (child_members super id r.apps)) in
      let all = sym (ended_alike r.values g same (reverse pids) (held_ended pids r.courses)) in
      λ j. record { fetched = r.fetched; modules = r.modules; apps = child_terminated super id r.apps; values = g; courses = all j }
  child_alike (deletes super id) b =
      let all = sym (child_ended_alike (child_place super id r.apps)) in
      one_alike b (with_values g r) r _ (with_scene r (with_deleted super id (scene_of r))) refl
      (λ j. record { fetched = r.fetched; modules = r.modules; apps = child_deleted super id r.apps; values = g; courses = all j })
  child_alike (restarts super id) b =
      one_alike b (with_values g r) r _ (restarted_at super id (child_place super id r.apps) r) refl (restarted_alike super id (child_place super id r.apps))
  child_alike no_end b = refl

  call_after_alike : (s : Site) (c : CallForm) (b : Bool) → call_after s c b (with_values g r) ≡ with_values g (call_after s c b r)
  call_after_alike s c b = one_alike (is_on_child c) _ (child_after (child_call c) b r) _ (called_after s (app_call c) r) (child_alike (child_call c) b) (called_alike s (app_call c))

  run_alike : (s : Site) (early b : Bool) (i : Instruction) → run_after s early b i (with_values g r) ≡ with_values g (run_after s early b i r)
  run_alike s early b (code_change c) = changed_alike s (mode_of c.mode) c.changes g r
  run_alike s early b (apply c) = call_after_alike s c b
  run_alike s early b i = refl

  left_alike : Alike (values_alone r) (values_alone (with_values g r))
  left_alike p inside = ap (λ (v : Value). replay_from v (added (r.courses p).blocks)) (same p inside)

  -- whether it leaves a child as it is
  child_reported_alike : (x y : Values) (c : ChildCall) → Alike x y → child_stays_at x c r ≡ child_stays_at y c (with_values g r)
  child_reported_alike x y (terminates super id) left = refl
  child_reported_alike x y (deletes super id) left = place_alike stay.Up (now_in x r.courses) (now_in y r.courses) (child_place super id r.apps) (now_alike x y r.courses left)
  child_reported_alike x y (restarts super id) left = place_alike stay.UpOrTemporary (now_in x r.courses) (now_in y r.courses) (child_place super id r.apps) (now_alike x y r.courses left)
  child_reported_alike x y no_end left = refl

  reported_alike : (x y : Values) (i : Instruction) → Alike x y → stays_at x i r ≡ stays_at y i (with_values g r)
  reported_alike x y (apply c) left = ap (λ (b : Bool). if is_on_child c then b else false) (child_reported_alike x y (child_call c) left)
  reported_alike x y i left = refl

  step_alike : (s : Site) (early : Bool) (i : Instruction) → step_alone s early i (with_values g r) ≡ with_values g (step_alone s early i r)
  step_alike s early i =
      ap (λ (b : Bool). run_after s early b i (with_values g r)) (sym (reported_alike (values_alone r) (values_alone (with_values g r)) i left_alike))
      ∙ run_alike s early (stays_at (values_alone r) i r) i

-- why it fails, where this is left in the slots
stuck_alike : (old : Option OldVersion) (c : ChangeForm) (x y : Values) (g : Values) (r : Run) → Alike x y → is_stuck old c x r ≡ is_stuck old c y (with_values g r)
stuck_alike None c x y g r left = refl
stuck_alike (Some old) c x y g r left =
    any_alike _ _ slots (λ p inside. ap (λ (v : Value). is_held_user (modules_by_slot_in r) c.name r.courses p && not (finds_row old c.extra (replay_from v (r.courses p).pending))) (left p inside))

change_alike : (s : Site) (mode : Direction) (cs : List ChangeForm) (x y : Values) (g : Values) (r : Run) → Alike x y → change_fault s mode cs x r ≡ change_fault s mode cs y (with_values g r)
change_alike s Up [] x y g r left = refl
change_alike s Down [] x y g r left = refl
change_alike s Up (c ∷ cs) x y g r left =
    ap₂ (λ (b : Bool) (o : Option Cause). if b then Some no_change else o) (stuck_alike (old_version s Up c.name r) c x y g r left)
    (change_alike s Up cs x y g (changed_once s Up c r) left)
change_alike s Down (c ∷ cs) x y g r left =
    ap₂ (λ (b : Bool) (o : Option Cause). if b then Some no_change else o) (stuck_alike (old_version s Down c.name r) c x y g r left)
    (change_alike s Down cs x y g (changed_once s Down c r) left)

module _ (g : Values) (r : Run) (same : Alike r.values g) where
  start_alike : (l : Option Library) → start_fault l r ≡ start_fault l (with_values g r)
  start_alike None = refl
  start_alike (Some l) =
      let tables = tables_among r.modules in
      ap (λ (n : ℕ). if is_some (app_named l.app.name r.apps) then None else start_fault_or (app_fault tables l.app.top) (length (app_starts tables l.app.top)) n)
      (room_alike r.values g same r.courses)

  app_fault_alike : (s : Site) (c : AppCall) → app_call_fault s c r ≡ app_call_fault s c (with_values g r)
  app_fault_alike s (starts name) = start_alike (target_library s name)
  app_fault_alike s (stops name) = refl
  app_fault_alike s idle = refl

  restart_fault_alike : (o : Option Place) → restart_fault_at o (tables_among r.modules) r ≡ restart_fault_at o (tables_among r.modules) (with_values g r)
  restart_fault_alike None = refl
  restart_fault_alike (Some p) =
      let tables = tables_among r.modules in
      ap (start_fault_or (restart_fault tables p.child) (length (restart_starts tables p)))
      (room_alike r.values g same (child_ended (scene_of r) (Some p)) ∙ ap (room_in g) (child_ended_alike g r same (Some p)))

  child_fault_alike : (x y : Values) (c : ChildCall) → Alike x y → child_call_fault x c r ≡ child_call_fault y c (with_values g r)
  child_fault_alike x y (terminates super id) left = refl
  child_fault_alike x y (deletes super id) left = refl
  child_fault_alike x y (restarts super id) left =
      ap₂ (λ (b : Bool) (o : Option Cause). super_fault_or super r (if b then None else o)) (child_reported_alike g r same x y (restarts super id) left)
      (restart_fault_alike (child_place super id r.apps))
  child_fault_alike x y no_end left = refl

  call_fault_alike : (s : Site) (x y : Values) (c : CallForm) → Alike x y → call_fault s x c r ≡ call_fault s y c (with_values g r)
  call_fault_alike s x y c left =
      ap₂ (λ (o o' : Option Cause). if is_error c then error_cause c.args else if is_on_child c then o else o')
      (child_fault_alike x y (child_call c) left) (app_fault_alike s (app_call c))

  fault_alike : (s : Site) (x y : Values) (i : Instruction) → Alike x y → fault s x r i ≡ fault s y (with_values g r) i
  fault_alike s x y (code_change c) left = change_alike s (mode_of c.mode) c.changes x y g r left
  fault_alike s x y (remove q) left = ap (λ (b : Bool). if supervises q.name r.apps || b then Some in_use else None) (uses_alike q.name x y r left)
  fault_alike s x y (apply c) left = call_fault_alike s x y c left
  fault_alike s x y i left = refl

mapped : (h : Run → Run) (o : Option Cause) (early : Bool) (n : ℕ) (more : Outcome) → unless_fault o early n (map_outcome h more) ≡ map_outcome h (unless_fault o early n more)
mapped h None early n more = refl
mapped h (Some c) true n more = refl
mapped h (Some c) false n more = refl

from_alike : (s : Site) (early : Bool) (n : ℕ) (is : List Instruction) (g : Values) (r : Run) → Alike r.values g
    → outcome_from s early n is (with_values g r) ≡ map_outcome (with_values g) (outcome_from s early n is r)
from_alike s early n [] g r same = refl
from_alike s early n (i ∷ is) g r same =
    let r' = step_alone s early i r in
    let early' = early && not (is_point i) in
    let kept : Alike r'.values g = λ p inside. ap (λ (x : Values). x p) (step_values s early (stays_at (values_alone r) i r) i r) ∙ same p inside in
    let more = outcome_from s early' (n + 1) is r' in
    let rest : outcome_from s early' (n + 1) is (step_alone s early i (with_values g r)) ≡ map_outcome (with_values g) more =
    ap (outcome_from s early' (n + 1) is) (step_alike g r same s early i) ∙ from_alike s early' (n + 1) is g r' kept in
    let why = fault_alike g r same s (values_alone r) (values_alone (with_values g r)) i (left_alike g r same) in
    (λ j. unless_fault (sym why j) early (n + 1) (rest j)) ∙ mapped (with_values g) (fault s (values_alone r) r i) early (n + 1) more

-- The outcome of a script goes by what stands in the slots alone.
pub outcome_alike : (s : Site) (apps : List App) (f g : Values) (script : List Instruction) → Alike f g
    → outcome s (began s apps g) script ≡ map_outcome (with_values g) (outcome s (began s apps f) script)
outcome_alike s apps f g script same = from_alike s true 0 script g (began s apps f) same

-- A node on which a script is carried out.

abbrev pub start : View → List App → Start
start v apps = record { first = v; apps = apps }

-- what stands in its slots is what the handler has seen
node_values : (v : View) (apps : List App) (modules : NamedModules) → Alike (values_seen v) (values_of (node v apps modules))
node_values v apps modules p inside = sym (value_there v p inside)

outcome_on : (s : Site) (v : View) (apps : List App) (modules : NamedModules) (script : List Instruction)
    → outcome s (run_on s (node v apps modules)) script ≡ map_outcome (with_values (values_of (node v apps modules))) (outcome s (began_at s (start v apps)) script)
outcome_on s v apps modules script = outcome_alike s apps (values_seen v) (values_of (node v apps modules)) script (node_values v apps modules)

-- what stands in the slots, one after another
slots_alike : (f g : ℕ → Value) → ((p : ℕ) → p < slots → f p ≡ g p) → map f (range_with_len 0 slots) ≡ map g (range_with_len 0 slots)
slots_alike f g same =
    let long = length-map-range_with_len f 0 slots in
    ext_get_or nothing (map f (range_with_len 0 slots)) (map g (range_with_len 0 slots)) (long ∙ sym (length-map-range_with_len g 0 slots))
    (λ q within. let inside : q < slots = omega (arith, within, long) in
    get_or-map-range_with_len f 0 slots q q nothing inside (omega arith)
    ∙ (same q inside ∙ sym (get_or-map-range_with_len g 0 slots q q nothing inside (omega arith))))

-- The processes after a script that was carried out.
pub script_ends : (s : Site) (v : View) (apps : List App) (modules : NamedModules) (script : List Instruction) (loaded' : NamedModules) (apps' : List App) (w : View)
    → v.lent ≡ [] → IsFinished s (start v apps) script loaded' apps' w
    → (r : Run) × (outcome s (run_on s (node v apps modules)) script ≡ ends r) × (behind_run r ≡ node w apps' loaded')
script_ends s v apps modules script loaded' apps' w none done =
    let q = run_behind s (start v apps) done.reported script in
    let g = values_of (node v apps modules) in
    let r = with_values g q in
    let values : map (values_alone (ended_run r)) (range_with_len 0 slots) ≡ values_in w =
    slots_alike (values_alone (ended_run r)) (values_seen w) (λ p inside.
    let more = added (course_after finish (q.courses p)).blocks in
    ap (λ (x : Value). replay_from x more) (value_there v p inside)
    ∙ (sym (replay-append nothing (seen v p) more) ∙ ap replay (sym (blocks_alone v (on_all finish q.courses) w none done.left p inside)))) in (
      r,
      outcome_on s v apps modules script ∙ ap (map_outcome (with_values g)) (has_one_outcome.finished s (start v apps) script loaded' apps' w none done),
      λ j. record { values = values j; apps = sym done.apps_are j; modules = sym done.loaded_is j },
    )

-- the first instruction that fails, before the point or after it
pub script_refuses : (s : Site) (v : View) (apps : List App) (modules : NamedModules) (script : List Instruction) (n : ℕ) (c : Cause) (w : View)
    → v.lent ≡ [] → c ≢ no_memory → IsRefused s (start v apps) script n c w → outcome s (run_on s (node v apps modules)) script ≡ refuses n c
script_refuses s v apps modules script n c w none other is =
    outcome_on s v apps modules script ∙ ap (map_outcome (with_values (values_of (node v apps modules)))) (has_one_outcome.refused s (start v apps) script n c w none other is)

pub script_breaks : (s : Site) (v : View) (apps : List App) (modules : NamedModules) (script : List Instruction) (n : ℕ) (c : Cause) (w : View)
    → v.lent ≡ [] → c ≢ no_memory → IsBroken s (start v apps) script n c w → outcome s (run_on s (node v apps modules)) script ≡ breaks n c
script_breaks s v apps modules script n c w none other is =
    outcome_on s v apps modules script ∙ ap (map_outcome (with_values (values_of (node v apps modules)))) (has_one_outcome.broken s (start v apps) script n c w none other is)

-- where nothing was added, the same stands in the slots
pub untouched_values : (v w : View) → v.lent ≡ [] → AreUntouched v w → values_in w ≡ values_in v
untouched_values v w none untouched =
    slots_alike (values_seen w) (values_seen v) (λ p inside. ap replay (blocks_alone v (λ q. opening) w none untouched p inside ∙ append-nil (seen v p)))

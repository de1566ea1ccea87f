-- Events, and the courses of processes, keep the tables of processes or bring such with a version.
use Rattle.std.proofs.Common.{◌≡◌, ℕ, Bool, true, false, List, [], ◌∷◌, Option, Some, None, refl, sym, subst, ◌==◌, if◌then◌else◌}
use Rattle.std.specs.List.{AllByRecursion}
use Rattle.std.specs.Option.{option_map}
use Rattle.rel_files.specs.Name.{IsVersion}
use Rattle.mod_table.specs.declared.table.Table.{Table}
use Rattle.mod_table.specs.declared.table.Table.TheVariants.{Worker, Super}
use Rattle.worker_table.specs.Table.{OldVersion, WorkerTable}
use Rattle.started_members.specs.Begins.{beginning_of}
use Rattle.app_members.specs.Walk.{Start}
use Rattle.proc_history.specs.declared.beginning.Beginning.{Beginning}
use Rattle.proc_history.specs.declared.value.Now.{Now}
use Rattle.proc_history.specs.declared.value.Standing.{Standing}
use Rattle.proc_history.specs.declared.value.Standing.TheVariants.{Up, Down, Stopped}
use Rattle.proc_history.specs.declared.value.Value.{Value}
use Rattle.worker_table.specs.declared.step.Step.{Step}
use Rattle.worker_table.specs.declared.step.Step.TheVariants.{Next, Ends, Crashes}
use Rattle.proc_history.specs.Events.{Event, HistoryEntry, entry}
use Rattle.proc_history.specs.Events as history
use Rattle.proc_history.specs.Values.{nothing, answer, begun, called as called_process, changes, ended, moved_to, restarted, starts_again, where_up, with_now, after}
use Rattle.proc_table.specs.declared.pid.Pid.{Pid}
use Rattle.node_processes.specs.ModuleVersions.{HasModuleVersion, HasTableVersion}
use Rattle.relup_instruction.specs.Instruction.{ChangeForm}
use Rattle.proc_history.specs.Histories.{replay_from}
use Rattle.started_members.specs.Ends.{stands}
use Rattle.held_processes.specs.Applications.{all_begun, all_ended, begun_at, ended_at, held_ended, known}
use Rattle.held_processes.specs.Course.{Course, Courses, Hold, Operation, ModulesBySlot, add, add_alone, added, at_point, course_after, if_held, let_go, load_free, on_module, runs}
use Rattle.held_processes.specs.Course.Hold.{not_held, until_point, until_resumed}
use Rattle.held_processes.specs.Course as course
use Rattle.held_processes.specs.Operations.{Values, give_up_at}
use Rattle.script_progress.specs.Script.{change_courses, load_courses, on_each, worker_table}
use Rattle.node_processes.proofs.TableVersions.{OrNone, each_append, StartsVersion}

pub begun_version : (b : Beginning) (n : Now) → IsVersion b.table.vsn → Some (begun b) ≡ Some n → IsVersion n.table.vsn
begun_version b n version is = let same : b.table ≡ n.table = cc in subst (λ t. IsVersion t.vsn) same version

-- An event keeps the table of a process, or brings one.
ended_table : (n : Now) (again : Bool) → (ended n again).table ≡ n.table
ended_table n true = refl
ended_table n false = refl

called_table : (n : Now) (s : Step) → (called_process n s).table ≡ n.table
called_table n (Next s r) = refl
called_table n (Ends r) = ended_table n (starts_again n.restart false)
called_table n Crashes = ended_table n (starts_again n.restart true)

moved_table : (n : Now) (o : Option ℕ) → (moved_to n o).table ≡ n.table
moved_table n None = refl
moved_table n (Some s) = refl

restarted_table : (n : Now) (s : Standing) → (restarted n s).table ≡ n.table
restarted_table n Up = refl
restarted_table n Down = refl
restarted_table n Stopped = refl

up_table : (f : Now → Now) (n : Now) (s : Standing) → (f n).table ≡ n.table → (where_up f n s).table ≡ n.table
up_table f n Up same = same
up_table f n Down same = refl
up_table f n Stopped same = refl

with_version : (v : Value) (f : Now → Now) → ((n : Now) → IsVersion n.table.vsn → IsVersion (f n).table.vsn) → HasModuleVersion v → HasModuleVersion (with_now v f)
with_version v f keeps version n is = go v.now refl is
  where
    go : (w : Option Now) → v.now ≡ w → option_map f w ≡ Some n → IsVersion n.table.vsn
    go None at is = absurd cc
    go (Some m) at is = let same : f m ≡ n = cc in subst (λ (t : Now). IsVersion t.table.vsn) same (keeps m (version m at))

same_table : (v : Value) (f : Now → Now) → ((n : Now) → (f n).table ≡ n.table) → HasModuleVersion v → HasModuleVersion (with_now v f)
same_table v f same version = with_version v f (λ n has. subst (λ t. IsVersion t.vsn) (sym (same n)) has) version

pub nothing_version : HasModuleVersion nothing
nothing_version n is = absurd cc

-- the table that an event brings has a version
abbrev pub BringsVersion : Event → Type 0
BringsVersion (history.Event.begin round b) = IsVersion b.table.vsn
BringsVersion (history.Event.loaded t) = IsVersion t.vsn
BringsVersion e = Unit {0}

pub after_version : (v : Value) (e : Event) → BringsVersion e → HasModuleVersion v → HasModuleVersion (after v e)
after_version v (history.Event.begin round b) brings version = λ n is. begun_version b n brings is
after_version v (history.Event.call input o) brings version =
    same_table v _ (λ n. up_table (λ m. called_process m (answer m input)) n n.standing (called_table n (answer n input))) version
after_version v (history.Event.loaded t) brings version = with_version v _ (λ n has. brings) version
after_version v (history.Event.changed old extra) brings version =
    same_table v _ (λ n. up_table (λ m. moved_to m (changes m old extra)) n n.standing (moved_table n (changes n old extra))) version
after_version v history.Event.stopped brings version = same_table v _ (λ n. up_table (λ m. record m { standing = Stopped }) n n.standing refl) version
after_version v history.Event.started brings version = same_table v _ (λ n. restarted_table n n.standing) version
after_version v history.Event.given_up brings version = λ n is. absurd cc

abbrev pub EntryVersion : HistoryEntry → Type 0
EntryVersion e = BringsVersion e.event

-- what entries leave has a module with a version
pub replay_versions : (v : Value) (es : List HistoryEntry) → HasModuleVersion v → AllByRecursion EntryVersion es → HasModuleVersion (replay_from v es)
replay_versions v [] version all = version
replay_versions v (e ∷ es) version all = replay_versions (after v e.event) es (after_version v e.event all.0 version) all.1

pub added_versions : (bs : List (List HistoryEntry)) → AllByRecursion (λ (b : List HistoryEntry). AllByRecursion EntryVersion b) bs → AllByRecursion EntryVersion (added bs)
added_versions [] all = tt
added_versions (b ∷ bs) all = each_append EntryVersion (added bs) b (added_versions bs all.1) all.0

abbrev pub IsWorkerVersion : WorkerTable → Type 0
IsWorkerVersion w = IsVersion w.vsn

pub worker_version : (t : Option Table) → HasTableVersion t → OrNone IsWorkerVersion (worker_table t)
worker_version None version = tt
worker_version (Some (Worker w)) version = version
worker_version (Some (Super s)) version = tt

-- The tables that the entries of courses bring.

pub record CourseVersions (c : Course) : Type 0 where
  pub blocks : AllByRecursion (λ (b : List HistoryEntry). AllByRecursion EntryVersion b) c.blocks
  pub pending : AllByRecursion EntryVersion c.pending

add_versions : (e : Event) (c : Course) → BringsVersion e → CourseVersions c → CourseVersions (add e c)
add_versions e c brings v = record { blocks = v.blocks; pending = each_append EntryVersion c.pending (entry 0 e ∷ []) v.pending (brings, tt) }

alone_versions : (e : Event) (c : Course) → BringsVersion e → CourseVersions c → CourseVersions (add_alone e c)
alone_versions e c brings v = record { blocks = ((brings, tt), v.blocks); pending = v.pending }

go_versions : (c : Course) → CourseVersions c → CourseVersions (let_go c)
go_versions c v = record { blocks = (v.pending, v.blocks); pending = tt }

held_versions : (k : Hold) (a b : Course) → CourseVersions a → CourseVersions b → CourseVersions (if_held k a b)
held_versions not_held a b held free = free
held_versions until_point a b held free = held
held_versions until_resumed a b held free = held

point_versions : (k : Hold) (c : Course) → CourseVersions c → CourseVersions (at_point k c)
point_versions not_held c v = v
point_versions until_point c v = go_versions c v
point_versions until_resumed c v = v

free_versions : (keep : Bool) (t : WorkerTable) (c : Course) → IsVersion t.vsn → CourseVersions c → CourseVersions (load_free keep t c)
free_versions true t c brings v = record { blocks = v.blocks; pending = (brings, tt) }
free_versions false t c brings v = alone_versions (history.Event.loaded t) c brings v

abbrev GivesVersion : Operation → Type 0
GivesVersion (course.Operation.load keep t) = IsVersion t.vsn
GivesVersion op = Unit {0}

pub course_versions : (op : Operation) (c : Course) → GivesVersion op → CourseVersions c → CourseVersions (course_after op c)
course_versions course.Operation.suspend c gives v = record { blocks = v.blocks; pending = v.pending }
course_versions (course.Operation.load keep t) c gives v = held_versions c.hold _ _ (add_versions (history.Event.loaded t) c gives v) (free_versions keep t c gives v)
course_versions (course.Operation.change old extra) c gives v = held_versions c.hold _ _ (add_versions (history.Event.changed old extra) c tt v) v
course_versions course.Operation.resume c gives v = held_versions c.hold _ _ (go_versions c v) v
course_versions course.Operation.stop c gives v = held_versions c.hold _ _ (add_versions history.Event.stopped c tt v) (alone_versions history.Event.stopped c tt v)
course_versions course.Operation.start c gives v = held_versions c.hold _ _ (add_versions history.Event.started c tt v) (alone_versions history.Event.started c tt v)
course_versions course.Operation.give_up c gives v =
    held_versions c.hold _ _ (go_versions (add history.Event.given_up c) (add_versions history.Event.given_up c tt v)) (alone_versions history.Event.given_up c tt v)
course_versions course.Operation.pass_point c gives v = point_versions c.hold c v
course_versions course.Operation.finish c gives v = held_versions c.hold _ _ (go_versions c v) v

abbrev pub AllVersions : Courses → Type 0
AllVersions cs = (p : ℕ) → CourseVersions (cs p)

either_versions : (b : Bool) (c d : Course) → CourseVersions c → CourseVersions d → CourseVersions (if b then c else d)
either_versions true c d one other = one
either_versions false c d one other = other

module_courses : (users : ModulesBySlot) (name : List ℕ) (op : Operation) (cs : Courses) → GivesVersion op → AllVersions cs → AllVersions (on_module users name op cs)
module_courses users name op cs gives all p = either_versions (runs name (users p)) (course_after op (cs p)) (cs p) (course_versions op (cs p) gives (all p)) (all p)

pub each_courses : (op : Operation) (names : List (List ℕ)) (users : ModulesBySlot) (cs : Courses) → GivesVersion op → AllVersions cs → AllVersions (on_each op names users cs)
each_courses op [] users cs gives all = all
each_courses op (n ∷ ns) users cs gives all = each_courses op ns users (on_module users n op cs) gives (module_courses users n op cs gives all)

pub load_versions : (keep : Bool) (name : List ℕ) (o : Option WorkerTable) (users : ModulesBySlot) (cs : Courses) → OrNone IsWorkerVersion o → AllVersions cs → AllVersions (load_courses keep name o users cs)
load_versions keep name None users cs version all = all
load_versions keep name (Some w) users cs version all = module_courses users name (course.Operation.load keep w) cs version all

pub change_versions : (name : List ℕ) (o : Option OldVersion) (c : ChangeForm) (users : ModulesBySlot) (cs : Courses) → AllVersions cs → AllVersions (change_courses name o c users cs)
change_versions name None c users cs all = all
change_versions name (Some old) c users cs all = module_courses users name (course.Operation.change old c.extra) cs tt all

-- processes that begin, and that end
pub begun_versions : (app : List ℕ) (ss : List Start) (pids : List Pid) (cs : Courses) → AllByRecursion StartsVersion ss → AllVersions cs → AllVersions (all_begun app ss pids cs)
begun_versions app [] pids cs have all = all
begun_versions app (s ∷ ss) [] cs have all = all
begun_versions app (s ∷ ss) (pid ∷ pids) cs have all =
    let b = beginning_of app s in
    begun_versions app ss pids (begun_at pid b cs) have.1
    (λ p. either_versions (p == pid.slot) (add_alone (history.Event.begin pid.round b) (cs p)) (cs p) (alone_versions (history.Event.begin pid.round b) (cs p) have.0 (all p)) (all p))

pub ended_versions : (values : Values) (pids : List Pid) (cs : Courses) → AllVersions cs → AllVersions (all_ended values pids cs)
ended_versions values [] cs all = all
ended_versions values (pid ∷ pids) cs all =
    ended_versions values pids (ended_at values pid cs) (λ p.
    let alone = add_alone history.Event.given_up (cs p) in
    let stood = stands pid (known values cs p) in
    either_versions (p == pid.slot) (if stood then alone else cs p) (cs p) (either_versions stood alone (cs p) (alone_versions history.Event.given_up (cs p) tt (all p)) (all p)) (all p))

pub given_up_versions : (pids : List Pid) (cs : Courses) → AllVersions cs → AllVersions (held_ended pids cs)
given_up_versions [] cs all = all
given_up_versions (pid ∷ pids) cs all =
    given_up_versions pids (give_up_at pid.slot cs) (λ p.
    let behind = course_after course.Operation.give_up (cs p) in
    either_versions (p == pid.slot) (if_held (cs p).hold behind (cs p)) (cs p) (held_versions (cs p).hold behind (cs p) (course_versions course.Operation.give_up (cs p) tt (all p)) (all p)) (all p))

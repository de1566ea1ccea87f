-- What a step leaves, of what its parts leave.
use Rattle.std.proofs.Common.{◌≡◌, ℕ, zero, suc, ◌<◌, ◌+◌, ◌&&◌, ◌||◌, Bool, true, false, true≢false, not, is_some, List, [], ◌∷◌, ◌++◌, map, take, drop, length, get_or, if◌then◌else◌, nat_lt, refl, sym, ap, ap₂, subst, ◌∙◌, Option, Some, None, IsSome, unwrap_or, Result, Ok, Err, IsErrAnd, arith}
use Rattle.library.specs.Library.{Library}
use Rattle.worker_table.specs.Table.{OldVersion, WorkerTable}
use Rattle.proc_history.specs.Changes.{finds_row}
use Rattle.proc_history.specs.Events.Event.{changed as code_changed}
use Rattle.proc_table.specs.declared.view.View.{View}
use Rattle.proc_table.specs.Agrees.{slots}
use Rattle.std.specs.List.{list_any}
use Rattle.std.proofs.lemmas.Bool.{lt-ltb}
use Rattle.std.proofs.lemmas.List.{length-map, length-take-le}
use Rattle.held_processes.specs.Course as course
use Rattle.held_processes.specs.Course.{Course, Courses, Hold, Operation, ModulesBySlot, add, if_held, on_module, runs}
use Rattle.held_processes.specs.Course.Hold.{not_held, until_point, until_resumed}
use Rattle.held_processes.specs.declared.steps.Undone.{Undone}
use Rattle.held_processes.specs.Following.{AllFollow, AreLonger, HeldSlots}
use Rattle.held_processes.specs.Operations.{Changes, FindsRows, IsDone, ReportsHeldUser, Values, any_below, has_free_user, holds_user, is_held, is_held_user, is_lowest, now_in, lacks_row, lacks_row_at, part_way, modules_by_slot, values_seen}
use Rattle.relup_instruction.specs.declared.instruction.Direction.{Direction}
use Rattle.relup_instruction.specs.declared.instruction.Direction.TheVariants.{Up}
use Rattle.relup_instruction.specs.declared.instruction.Suspension.{Suspension}
use Rattle.relup_instruction.specs.Instruction.{ChangeForm, ConversionForm, FetchForm, PurgingForm, SuspensionForm, suspension_of}
use Rattle.relup_instruction.specs.Instruction.Instruction.{load_object_code, suspend, load, code_change}
use Rattle.loaded_modules.specs.Loaded.{Module, NamedModules, library_modules, module_named, with_loaded}
use Rattle.sup_tree.specs.Tree.{App}
use Rattle.script_progress.specs.declared.cause.Cause as declared
use Rattle.script_progress.specs.declared.cause.Cause.TheVariants.{NotFetched}
use Rattle.script_progress.specs.declared.cause.Failure.{Failure}
use Rattle.script_progress.specs.Fault.{Cause, change_fault, fetch_fault, is_stuck, load_fault, table_fault}
use Rattle.script_progress.specs.Fault.Cause.{no_change, no_memory}
use Rattle.script_progress.specs.InMemory.{cause_of}
use Rattle.script_progress.specs.Script.{Run, Site, change_courses, change_within, changed, changed_once, changed_within, each_within, fetched_from, fetched_of, library_for, load_courses, load_within, mode_of, old_version, on_each, processes_changed, supervisors_changed, suspended_in, tables_among, modules_by_slot_in, worker_in}
use Rattle.script_progress.specs.Steps.{CarriesOut, HasDone, IsCause, IsCauseIn, Past, ProgressForm, followed_in}
use Rattle.script_progress.specs.Stops.{UnlessMemory, change_asks, changes_ask, fetch_asks, is_first_stuck, is_memory, is_stuck_at, is_super}
use Rattle.relup_exec.specs.Steps.{AreSuspended, ChangesOnce, ChangesProcesses, FailsToChange, GivesTable}
use Rattle.script_progress.proofs.CallLemmas.{left_true}
use Rattle.script_progress.proofs.SeenLemmas.{cause_seen, memory_in, seen_in, seen_of}
use Rattle.relup_exec.proofs.CourseLemmas.{change_none_within, changed_push, changed_stopped, changed_within_same, each_push, each_stopped, free_before}
use Rattle.held_processes.proofs.AnyLemmas.{any_found, any_none, not_at, or_true}
use Rattle.held_processes.proofs.FollowLemmas.{follow_same}
use Rattle.held_processes.proofs.SlotLemmas.{longer_still}
use Rattle.relup_exec.proofs.RowLemmas.{more, parted}

-- the processes of all modules are suspended, or memory was refused
pub suspended : (s : Site) (past : Past) (early : Bool) (ss : List SuspensionForm) (r : Result (Unit {0}) Failure) (a : ProgressForm) (tree : List App) (hs : HeldSlots) (v w : View) → HasDone past a tree v → AreLonger v w
    → AreSuspended (followed_in past) (modules_by_slot tree) (suspended_in ss) r hs w
    → CarriesOut s past early (suspend ss) r (record a { held = hs }) tree v w
suspended s past early ss (Ok x) a tree hs v w done longer did = (
  (v, (seen_in past a tree v done, refl, refl), longer_still v, longer),
  record {
    follow = subst (λ (as' : List App). AllFollow past.first (on_each course.Operation.suspend (suspended_in ss) (modules_by_slot as') past.run.courses) hs w) done.apps did;
    fetched = done.fetched;
    next = done.next;
    apps = done.apps;
    values = done.values;
  },
)
suspended s past early ss (Err e) a tree hs v w done longer did = (
  memory_in past.first w past.run None (cause_of e.cause) did.0,
  (λ _. ap (λ (as' : List App). list_any (λ n. has_free_user (modules_by_slot as') n past.run.courses) (suspended_in ss)) (sym done.apps) ∙ did.2, tt),
  subst (λ (as' : List App). AllFollow past.first (each_within course.Operation.suspend (suspended_in ss) e.modules e.slot (modules_by_slot as') past.run.courses) hs w) done.apps did.1,
)

names_of : (fs : List SuspensionForm) (f : SuspensionForm) (gs : List SuspensionForm) → suspended_in (fs ++ (f ∷ gs)) ≡ suspended_in fs ++ (f.name ∷ suspended_in gs)
names_of [] f gs = refl
names_of (g ∷ fs) f gs = ap (λ (ns : List (List ℕ)). g.name ∷ ns) (names_of fs f gs)

-- the module that is suspended at this place
pub suspended_at : (ss : List Suspension) (i : ℕ) (s : Suspension) → i < length ss → s ≡ get_or ss i s → get_or (suspended_in (map suspension_of ss)) i [] ≡ (suspension_of s).name
suspended_at [] i s within at = absurd (omega (arith, within))
suspended_at (t ∷ ss) zero s within at = ap (λ (x : Suspension). (suspension_of x).name) (sym at)
suspended_at (t ∷ ss) (suc i) s within at = suspended_at ss i s (omega (arith, within)) at

-- processes of one more module are suspended
pub suspended_more : (ss : List Suspension) (i : ℕ) (s : Suspension) (users : ModulesBySlot) (cs : Courses) → i < length ss → s ≡ get_or ss i s
    → on_each course.Operation.suspend (suspended_in (map suspension_of (take (i + 1) ss))) users cs
    ≡ on_module users (suspension_of s).name course.Operation.suspend (on_each course.Operation.suspend (suspended_in (map suspension_of (take i ss))) users cs)
suspended_more ss i s users cs within at =
    ap (λ (fs : List SuspensionForm). on_each course.Operation.suspend (suspended_in fs) users cs) (more suspension_of ss i s within at)
    ∙ (ap (λ (ns : List (List ℕ)). on_each course.Operation.suspend ns users cs) (names_of (map suspension_of (take i ss)) (suspension_of s) [])
    ∙ each_push course.Operation.suspend (suspended_in (map suspension_of (take i ss))) (suspension_of s).name users cs)

-- A suspension of several modules stopped at one of them.
pub suspended_within : (ss : List Suspension) (i : ℕ) (s : Suspension) (slot : ℕ) (users : ModulesBySlot) (cs : Courses) → i < length ss → s ≡ get_or ss i s
    → each_within course.Operation.suspend (suspended_in (map suspension_of ss)) i slot users cs
    ≡ part_way slot users (suspension_of s).name course.Operation.suspend (on_each course.Operation.suspend (suspended_in (map suspension_of (take i ss))) users cs)
suspended_within ss i s slot users cs within at =
    let front = suspended_in (map suspension_of (take i ss)) in
    let rest = map suspension_of (drop (i + 1) ss) in
    let long : length front ≡ i = length-map (map suspension_of (take i ss)) (λ (x : SuspensionForm). x.name) ∙ (length-map (take i ss) suspension_of ∙ length-take-le i ss (omega (arith, within))) in
    ap (λ (fs : List SuspensionForm). each_within course.Operation.suspend (suspended_in fs) i slot users cs) (parted suspension_of ss i s within at)
    ∙ (ap (λ (ns : List (List ℕ)). each_within course.Operation.suspend ns i slot users cs) (names_of (map suspension_of (take i ss)) (suspension_of s) rest)
    ∙ (ap (λ (n : ℕ). each_within course.Operation.suspend (front ++ ((suspension_of s).name ∷ suspended_in rest)) n slot users cs) (sym long)
    ∙ each_stopped course.Operation.suspend front (suspension_of s).name (suspended_in rest) slot users cs))

-- a module of which a process isn't held asks for memory, among others
asks_among : (f : List ℕ → Bool) (front : List (List ℕ)) (n : List ℕ) (rest : List (List ℕ)) → f n ≡ true → list_any f (front ++ (n ∷ rest)) ≡ true
asks_among f [] n rest e = ap (λ (b : Bool). b || list_any f rest) e
asks_among f (m ∷ front) n rest e = ap (λ (b : Bool). f m || b) (asks_among f front n rest e) ∙ or_true (f m)

-- one that isn't held after the suspension of others wasn't before
pub suspended_asks : (ss : List Suspension) (i : ℕ) (s : Suspension) (users : ModulesBySlot) (cs : Courses) → i < length ss → s ≡ get_or ss i s
    → has_free_user users (suspension_of s).name (on_each course.Operation.suspend (suspended_in (map suspension_of (take i ss))) users cs) ≡ true
    → list_any (λ n. has_free_user users n cs) (suspended_in (map suspension_of ss)) ≡ true
suspended_asks ss i s users cs within at free =
    let front = map suspension_of (take i ss) in
    let rest = map suspension_of (drop (i + 1) ss) in
    let test : List ℕ → Bool = λ n. has_free_user users n cs in
    ap (λ (fs : List SuspensionForm). list_any test (suspended_in fs)) (parted suspension_of ss i s within at)
    ∙ (ap (list_any test) (names_of front (suspension_of s) rest)
    ∙ asks_among test (suspended_in front) (suspension_of s).name (suspended_in rest) (free_before (suspended_in front) (suspension_of s).name users cs free))

pub fetched_push : (l : Library) (ns : List (List ℕ)) (n : List ℕ) (ms : NamedModules) → fetched_of l (ns ++ n ∷ []) ms ≡ with_loaded (library_modules l n) n (fetched_of l ns ms)
fetched_push l [] n ms = refl
fetched_push l (m ∷ ns) n ms = fetched_push l ns n (with_loaded (library_modules l m) m ms)

-- modules were fetched
pub fetched_well : (s : Site) (past : Past) (early : Bool) (f : FetchForm) (a : ProgressForm) (ms : NamedModules) (tree : List App) (v : View) → HasDone past a tree v
    → (fetch_fault (library_for s f) f.modules ≡ None) × (ms ≡ fetched_from (library_for s f) f.modules a.fetched)
    → CarriesOut {X = Unit {0}} s past early (load_object_code f) (Ok tt) (record a { fetched = ms }) tree v v
fetched_well s past early f a ms tree v done did = (
  (v, (seen_in past a tree v done, did.0, refl), longer_still v, longer_still v),
  record {
    follow = done.follow;
    fetched = did.1 ∙ ap (fetched_from (library_for s f) f.modules) done.fetched;
    next = done.next;
    apps = done.apps;
    values = done.values;
  },
)

-- modules weren't fetched
pub not_fetched : (s : Site) (past : Past) (early : Bool) (f : FetchForm) (e : Failure) (k : declared.Cause) (a : ProgressForm) (ms : NamedModules) (tree : List App) (v : View) → HasDone past a tree v
    → IsCause (fetch_fault (library_for s f) f.modules) (cause_of k) × (is_memory (cause_of k) ≡ true → fetch_asks (library_for s f) f.modules ≡ true) → e ≡ record { cause = k; modules = 0; slot = 0 }
    → CarriesOut {X = Unit {0}} s past early (load_object_code f) (Err e) (record a { fetched = ms }) tree v v
not_fetched s past early f e k a ms tree v done did is =
    subst (λ (q : Failure). CarriesOut {X = Unit {0}} s past early (load_object_code f) (Err q) (record a { fetched = ms }) tree v v) (sym is)
    (cause_seen past.first v past.run (fetch_fault (library_for s f) f.modules) (cause_of k) did.0 (seen_in past a tree v done), (did.1, tt), done.follow)

-- a module that was fetched is loaded, unless its processes can't get its table
load_fault_is : (o : Option Module) (users : ModulesBySlot) (name : List ℕ) → IsSome o → load_fault o users name ≡ table_fault (worker_in o) users name
load_fault_is None users name there = absurd (cc there)
load_fault_is (Some m) users name there = refl

-- The processes of the module that is loaded got its table.
pub loaded_well : (s : Site) (past : Past) (early : Bool) (p : PurgingForm) (a : ProgressForm) (n : List ℕ) (hs : HeldSlots) (got before next : NamedModules) (tree tree' : List App) (v w : View)
    → n ≡ p.name → IsSome (module_named p.name past.run.fetched) → HasDone past a tree v → AreLonger v w → GivesTable {X = Unit {0}} past early p.name (Ok tt) hs w
    → got ≡ a.fetched → before ≡ a.next → tree' ≡ tree → next ≡ with_loaded (module_named n got) n before
    → CarriesOut {X = Unit {0}} s past early (load p) (Ok tt) (record { held = hs; fetched = got; next = next }) tree' v w
loaded_well s past early p a n hs got before next tree tree' v w named there done longer given same kept stays loaded =
    let fetched : got ≡ past.run.fetched = same ∙ done.fetched in
    let modules : before ≡ past.run.modules = kept ∙ done.next in (
      (v, (seen_in past a tree v done, load_fault_is (module_named p.name past.run.fetched) (modules_by_slot_in past.run) p.name there ∙ given.0, refl), longer_still v, longer),
      record {
        follow = given.1;
        fetched = fetched;
        next = loaded ∙ (λ j. with_loaded (module_named (named j) (fetched j)) (named j) (modules j));
        apps = stays ∙ done.apps;
        values = done.values;
      },
    )

-- A load fails where its module wasn't fetched.
pub load_of_nothing : (s : Site) (past : Past) (early : Bool) (p : PurgingForm) (e : Failure) (a : ProgressForm) (tree : List App) (v : View)
    → module_named p.name past.run.fetched ≡ None → HasDone past a tree v → e ≡ record { cause = NotFetched; modules = 0; slot = 0 }
    → CarriesOut {X = Unit {0}} s past early (load p) (Err e) a tree v v
load_of_nothing s past early p e a tree v none done is = subst (λ (f : Failure). CarriesOut {X = Unit {0}} s past early (load p) (Err f) a tree v v) (sym is) (
  (ap (λ (o : Option Module). load_fault o (modules_by_slot_in past.run) p.name) none, seen_in past a tree v done),
  (λ memory. absurd (true≢false (sym memory)), tt),
  subst (λ (o : Option Module). AllFollow past.first (load_within early p.name (worker_in o) 0 (modules_by_slot_in past.run) past.run.courses) a.held v) (sym none) done.follow,
)

-- in all slots
all_within : (users : ModulesBySlot) (name : List ℕ) (op : Operation) (cs : Courses) (p : ℕ) → p < slots → on_module users name op cs p ≡ part_way slots users name op cs p
all_within users name op cs p inside = sym (ap (λ (b : Bool). if b then on_module users name op cs p else cs p) (lt-ltb p slots inside))

load_all_within : (keep : Bool) (name : List ℕ) (w : Option WorkerTable) (users : ModulesBySlot) (cs : Courses) (p : ℕ) → p < slots → load_courses keep name w users cs p ≡ load_within keep name w slots users cs p
load_all_within keep name None users cs p inside = refl
load_all_within keep name (Some w) users cs p inside = all_within users name (course.Operation.load keep w) cs p inside

-- A load fails where the processes of its module can't get the table.
table_not_given : (s : Site) (past : Past) (early : Bool) (p : PurgingForm) (e : Failure) (a : ProgressForm) (tree : List App) (v w : View) → IsSome (module_named p.name past.run.fetched)
    → GivesTable {X = Unit {0}} past early p.name (Err e) a.held w → CarriesOut {X = Unit {0}} s past early (load p) (Err e) a tree v w
table_not_given s past early p e a tree v w there given =
    let fault = load_fault_is (module_named p.name past.run.fetched) (modules_by_slot_in past.run) p.name there in (
      subst (λ (o : Option Cause). IsCauseIn past.first w past.run o (cause_of e.cause)) (sym fault) given.0,
      (λ memory. ap (λ (o : Option Cause). not (is_some o)) (fault ∙ given.2 memory), tt),
      given.1,
    )

-- The failure of a load is passed on, where the processes of its module can't get the table.
pub load_fails : {X : Type 0} (s : Site) (past : Past) (early : Bool) (p : PurgingForm) (e : Failure) (r : Result X Failure) (a : ProgressForm) (tree : List App) (v w : View) → IsSome (module_named p.name past.run.fetched)
    → GivesTable {X = Unit {0}} past early p.name (Err e) a.held w → IsErrAnd r (λ k. k ≡ e) → CarriesOut s past early (load p) r a tree v w
load_fails s past early p e (Ok x) a tree v w there given passed = absurd passed
load_fails {X} s past early p e (Err k) a tree v w there given passed =
    subst (λ (q : Failure). CarriesOut {X = X} s past early (load p) (Err q) a tree v w) (sym passed) (table_not_given s past early p e a tree v w there given)

-- memory was refused for the module, once its processes have its table
pub module_not_loaded : (s : Site) (past : Past) (early : Bool) (p : PurgingForm) (k : Failure) (a : ProgressForm) (tree : List App) (v w : View) → IsSome (module_named p.name past.run.fetched)
    → GivesTable {X = Unit {0}} past early p.name (Ok tt) a.held w → cause_of k.cause ≡ no_memory → k.slot ≡ slots → CarriesOut {X = Unit {0}} s past early (load p) (Err k) a tree v w
module_not_loaded s past early p k a tree v w there given cause at =
    let fault = load_fault_is (module_named p.name past.run.fetched) (modules_by_slot_in past.run) p.name there in
    let worker = worker_in (module_named p.name past.run.fetched) in
    let users = modules_by_slot_in past.run in (
      memory_in past.first w past.run (load_fault (module_named p.name past.run.fetched) users p.name) (cause_of k.cause) cause,
      (λ _. ap (λ (o : Option Cause). not (is_some o)) (fault ∙ given.0), tt),
      subst (λ (m : ℕ). AllFollow past.first (load_within early p.name worker m users past.run.courses) a.held w) (sym at)
          (follow_same past.first (load_courses early p.name worker users past.run.courses) (load_within early p.name worker slots users past.run.courses) a.held w
          (load_all_within early p.name worker users past.run.courses) given.1),
    )

-- why a single change of code fails
abbrev once_fault : Bool → Option Cause
once_fault b = if b then Some no_change else None

stuck_by : (s : Site) (mode : Direction) (c : ChangeForm) (seen : Values) (r : Run) (o : Option OldVersion) (b : Bool) → old_version s mode c.name r ≡ o → is_stuck o c seen r ≡ b
    → change_fault s mode (c ∷ []) seen r ≡ once_fault b
stuck_by s mode c seen r o b there stuck = ap (λ (q : Option OldVersion). once_fault (is_stuck q c seen r)) there ∙ ap once_fault stuck

-- what a change comes to, by what is in the tree
changes_by : (past : Past) (c : ChangeForm) (tree : List App) (n : List ℕ) (old : OldVersion) (a : ProgressForm) (hs : HeldSlots) (v : View) (r q : Result (Unit {0}) Undone) → n ≡ c.name
    → HasDone past a tree v → Changes (modules_by_slot tree) n old c.extra a.held r hs → r ≡ q
    → IsDone past.first (modules_by_slot_in past.run) c.name (course.Operation.change old c.extra) past.run.courses q hs v
    × FindsRows old c.extra (values_seen v) (modules_by_slot_in past.run) c.name past.run.courses q
changes_by past c tree n old a hs v r q named done changes is =
    let at_q : Changes (modules_by_slot tree) n old c.extra a.held q hs = subst (λ (x : Result (Unit {0}) Undone). Changes (modules_by_slot tree) n old c.extra a.held x hs) is changes in
    let here : Changes (modules_by_slot_in past.run) n old c.extra a.held q hs = subst (λ (as' : List App). Changes (modules_by_slot as') n old c.extra a.held q hs) done.apps at_q in
    let its : Changes (modules_by_slot_in past.run) c.name old c.extra a.held q hs = subst (λ (m : List ℕ). Changes (modules_by_slot_in past.run) m old c.extra a.held q hs) named here in
    its past.first past.run.courses v done.follow

pub changed_by_row : (s : Site) (past : Past) (mode : Direction) (number : ℕ) (c : ChangeForm) (tree : List App) (n : List ℕ) (old : OldVersion) (a : ProgressForm) (hs : HeldSlots) (v : View) (r : Result (Unit {0}) Undone)
    → n ≡ c.name → old_version s mode c.name past.run ≡ Some old → HasDone past a tree v → Changes (modules_by_slot tree) n old c.extra a.held r hs → r ≡ Ok tt
    → ChangesProcesses {X = Unit {0}} s past mode number c (Ok tt) (record a { held = hs }) tree v
changed_by_row s past mode number c tree n old a hs v r named there done changes is =
    let did = changes_by past c tree n old a hs v r (Ok tt) named done changes is in (
      stuck_by s mode c (values_seen v) past.run (Some old) false there did.1,
      record {
        follow = subst (λ (o : Option OldVersion). AllFollow past.first (change_courses c.name o c (modules_by_slot_in past.run) past.run.courses) hs v) (sym there) did.0;
        fetched = done.fetched;
        next = done.next;
        apps = done.apps;
        values = done.values;
      },
    )

-- no memory is asked for where the cause is another
another_cause : (c k : Cause) (P : Type 0) → c ≡ k → is_memory k ≡ false → is_memory c ≡ true → P
another_cause c k P is other memory = absurd (true≢false (sym memory ∙ (ap is_memory is ∙ other)))

pub changed_without_row : (s : Site) (past : Past) (mode : Direction) (number : ℕ) (c : ChangeForm) (tree : List App) (n : List ℕ) (old : OldVersion) (a : ProgressForm) (hs : HeldSlots) (v : View) (r : Result (Unit {0}) Undone) (e : Undone) (k : Failure)
    → n ≡ c.name → old_version s mode c.name past.run ≡ Some old → HasDone past a tree v → Changes (modules_by_slot tree) n old c.extra a.held r hs → r ≡ Err e
    → cause_of k.cause ≡ no_change → k.modules ≡ number → k.slot ≡ e.slot
    → ChangesProcesses {X = Unit {0}} s past mode number c (Err k) (record a { held = hs }) tree v
changed_without_row s past mode number c tree n old a hs v r e k named there done changes is cause counted at =
    let did = changes_by past c tree n old a hs v r (Err e) named done changes is in
    let seen = values_seen v in
    let test = lacks_row_at old c.extra seen (modules_by_slot_in past.run) c.name past.run.courses in
    let lacks : lacks_row old c.extra seen (modules_by_slot_in past.run) c.name past.run.courses ≡ true =
    any_found test slots e.slot did.1.0 (left_true (test e.slot) (not (any_below test e.slot)) did.1.1) in
    let here : is_stuck_at (old_version s mode c.name past.run) c k.slot seen past.run ≡ true =
    ap (λ (o : Option OldVersion). is_stuck_at o c k.slot seen past.run) there
    ∙ (ap (λ (n : ℕ). nat_lt n slots && is_lowest test n) at ∙ ap₂ (λ (a b : Bool). a && b) (lt-ltb e.slot slots did.1.0) did.1.1) in (
      subst (λ (x : Cause). IsCause (change_fault s mode (c ∷ []) seen past.run) x) (sym cause) (stuck_by s mode c seen past.run (Some old) true there lacks),
      counted,
      subst (λ (x : Cause). UnlessMemory x (is_stuck_at (old_version s mode c.name past.run) c k.slot seen past.run ≡ true)) (sym cause) here,
      subst (λ (o : Option OldVersion). AllFollow past.first (change_within c.name o c k.slot (modules_by_slot_in past.run) past.run.courses) hs v) (sym there)
          (subst (λ (m : ℕ). AllFollow past.first (part_way m (modules_by_slot_in past.run) c.name (course.Operation.change old c.extra) past.run.courses) hs v) (sym at) did.0),
      another_cause (cause_of k.cause) no_change (change_asks s mode c past.run ≡ true) cause refl,
    )

reported_of : (past : Past) (c : ChangeForm) (tree : List App) (n : List ℕ) (a : ProgressForm) (v : View) (b : Bool) → n ≡ c.name → HasDone past a tree v → ReportsHeldUser (modules_by_slot tree) n a.held b
    → b ≡ holds_user (modules_by_slot_in past.run) c.name past.run.courses
reported_of past c tree n a v b named done reported =
    let here : ReportsHeldUser (modules_by_slot_in past.run) n a.held b = subst (λ (as' : List App). ReportsHeldUser (modules_by_slot as') n a.held b) done.apps reported in
    let its : ReportsHeldUser (modules_by_slot_in past.run) c.name a.held b = subst (λ (m : List ℕ). ReportsHeldUser (modules_by_slot_in past.run) m a.held b) named here in
    its past.first past.run.courses v done.follow

-- nothing of a change was done
not_changed : (s : Site) (past : Past) (mode : Direction) (c : ChangeForm) (k : Failure) (a : ProgressForm) (tree : List App) (v : View) → HasDone past a tree v → k.slot ≡ 0
    → AllFollow past.first (change_within c.name (old_version s mode c.name past.run) c k.slot (modules_by_slot_in past.run) past.run.courses) a.held v
not_changed s past mode c k a tree v done at =
    follow_same past.first past.run.courses (change_within c.name (old_version s mode c.name past.run) c k.slot (modules_by_slot_in past.run) past.run.courses) a.held v
    (λ p inside. sym (ap (λ (m : ℕ). change_within c.name (old_version s mode c.name past.run) c m (modules_by_slot_in past.run) past.run.courses p) at
    ∙ change_none_within c.name (old_version s mode c.name past.run) c (modules_by_slot_in past.run) past.run.courses p)) done.follow

-- A change of code fails where there is no version to change from, and a process is held.
pub held_without_version : (s : Site) (past : Past) (mode : Direction) (number : ℕ) (c : ChangeForm) (tree : List App) (n : List ℕ) (k : Failure) (a : ProgressForm) (v : View) (b : Bool) → n ≡ c.name
    → old_version s mode c.name past.run ≡ None → HasDone past a tree v → ReportsHeldUser (modules_by_slot tree) n a.held b → b ≡ true
    → cause_of k.cause ≡ no_change → k.modules ≡ number → k.slot ≡ 0 → ChangesProcesses {X = Unit {0}} s past mode number c (Err k) a tree v
held_without_version s past mode number c tree n k a v b named none done reported is_held cause counted at =
    let seen = values_seen v in
    let held = sym (reported_of past c tree n a v b named done reported) ∙ is_held in (
      subst (λ (x : Cause). IsCause (change_fault s mode (c ∷ []) seen past.run) x) (sym cause) (stuck_by s mode c seen past.run None true none held),
      counted,
      subst (λ (x : Cause). UnlessMemory x (is_stuck_at (old_version s mode c.name past.run) c k.slot seen past.run ≡ true)) (sym cause)
          (ap (λ (o : Option OldVersion). is_stuck_at o c k.slot seen past.run) none ∙ held),
      not_changed s past mode c k a tree v done at,
      another_cause (cause_of k.cause) no_change (change_asks s mode c past.run ≡ true) cause refl,
    )

-- memory was refused for the version, where a process is held
pub version_not_copied : (s : Site) (past : Past) (mode : Direction) (number : ℕ) (c : ChangeForm) (tree : List App) (n : List ℕ) (k : Failure) (a : ProgressForm) (v : View) (b : Bool) → n ≡ c.name
    → is_some (old_version s mode c.name past.run) ≡ true → HasDone past a tree v → ReportsHeldUser (modules_by_slot tree) n a.held b → b ≡ true
    → cause_of k.cause ≡ no_memory → k.modules ≡ number → k.slot ≡ 0 → ChangesProcesses {X = Unit {0}} s past mode number c (Err k) a tree v
version_not_copied s past mode number c tree n k a v b named there done reported is_held cause counted at =
    let held = sym (reported_of past c tree n a v b named done reported) ∙ is_held in (
      subst (λ (x : Cause). IsCause (change_fault s mode (c ∷ []) (values_seen v) past.run) x) (sym cause) tt,
      counted,
      subst (λ (x : Cause). UnlessMemory x (is_stuck_at (old_version s mode c.name past.run) c k.slot (values_seen v) past.run ≡ true)) (sym cause) tt,
      not_changed s past mode c k a tree v done at,
      λ _. ap₂ (λ (x y : Bool). x && y || is_super (tables_among past.run.modules c.name)) there held,
    )

-- A change of code has no effect on a process that isn't held.
left_alone : (b : Bool) (h : Hold) (x y : Course) → (b && is_held h) ≡ false → (if b then if_held h x y else y) ≡ y
left_alone true not_held x y free = refl
left_alone true until_point x y free = absurd (true≢false free)
left_alone true until_resumed x y free = absurd (true≢false free)
left_alone false h x y free = refl

none_changes : (name : List ℕ) (old : Option OldVersion) (c : ChangeForm) (users : ModulesBySlot) (cs : Courses) (p : ℕ) → is_held_user users name cs p ≡ false → cs p ≡ change_courses name old c users cs p
none_changes name None c users cs p free = refl
none_changes name (Some old) c users cs p free =
    sym (left_alone (runs name (users p)) (cs p).hold (add (code_changed old c.extra) (cs p)) (cs p) free)

none_stuck : (old : Option OldVersion) (c : ChangeForm) (seen : Values) (r : Run) → holds_user (modules_by_slot_in r) c.name r.courses ≡ false → is_stuck old c seen r ≡ false
none_stuck None c seen r free = free
none_stuck (Some old) c seen r free =
    any_none (lacks_row_at old c.extra seen (modules_by_slot_in r) c.name r.courses) slots
    (λ p inside. ap (λ (b : Bool). b && not (finds_row old c.extra (now_in seen r.courses p))) (not_at (is_held_user (modules_by_slot_in r) c.name r.courses) slots p inside free))

-- none is held
pub none_held : (s : Site) (past : Past) (mode : Direction) (number : ℕ) (c : ChangeForm) (tree : List App) (n : List ℕ) (a : ProgressForm) (v : View) (b : Bool) → n ≡ c.name
    → HasDone past a tree v → ReportsHeldUser (modules_by_slot tree) n a.held b → b ≡ false → ChangesProcesses {X = Unit {0}} s past mode number c (Ok tt) a tree v
none_held s past mode number c tree n a v b named done reported is_free =
    let old = old_version s mode c.name past.run in
    let users = modules_by_slot_in past.run in
    let free : holds_user users c.name past.run.courses ≡ false = sym (reported_of past c tree n a v b named done reported) ∙ is_free in (
      ap once_fault (none_stuck old c (values_seen v) past.run free),
      record {
        follow = follow_same past.first past.run.courses (change_courses c.name old c users past.run.courses) a.held v
            (λ p inside. none_changes c.name old c users past.run.courses p (not_at (is_held_user users c.name past.run.courses) slots p inside free)) done.follow;
        fetched = done.fetched;
        next = done.next;
        apps = done.apps;
        values = done.values;
      },
    )

-- the children of supervisors were changed as well
pub supervisors_well : (s : Site) (past : Past) (mode : Direction) (number : ℕ) (c : ChangeForm) (n : List ℕ) (a b : ProgressForm) (before tree : List App) (v : View) → n ≡ c.name
    → ChangesProcesses {X = Unit {0}} s past mode number c (Ok tt) a before v → b.held ≡ a.held → b.fetched ≡ a.fetched → b.next ≡ a.next → tree ≡ supervisors_changed n (tables_among a.next n) before
    → ChangesOnce {X = Unit {0}} s past mode number c (Ok tt) b tree v
supervisors_well s past mode number c n a b before tree v named did held fetched next is = (
  did.0,
  record {
    follow = subst (λ (hs : HeldSlots). AllFollow past.first (processes_changed s mode c past.run).courses hs v) (sym held) did.1.follow;
    fetched = fetched ∙ did.1.fetched;
    next = next ∙ did.1.next;
    apps = is ∙ (λ j. supervisors_changed (named j) (tables_among (did.1.next j) (named j)) (did.1.apps j));
    values = did.1.values;
  },
)

-- A change of code fails where the change of its processes can't be made.
pub fails_once : {X : Type 0} (s : Site) (past : Past) (mode : Direction) (number : ℕ) (c : ChangeForm) (e : Failure) (r : Result X Failure) (a : ProgressForm) (tree : List App) (v : View)
    → FailsToChange s past mode number c e a v → IsErrAnd r (λ k. k ≡ e) → ChangesOnce s past mode number c r a tree v
fails_once s past mode number c e (Ok x) a tree v fails passed = absurd passed
fails_once s past mode number c e (Err k) a tree v fails passed = subst (λ (q : Failure). FailsToChange s past mode number c q a v) (sym passed) fails

change_all_within : (name : List ℕ) (old : Option OldVersion) (c : ChangeForm) (users : ModulesBySlot) (cs : Courses) (p : ℕ) → p < slots → change_courses name old c users cs p ≡ change_within name old c slots users cs p
change_all_within name None c users cs p inside = refl
change_all_within name (Some old) c users cs p inside = all_within users name (course.Operation.change old c.extra) cs p inside

-- memory was refused for the children of supervisors
pub supervisors_not_changed : (s : Site) (past : Past) (mode : Direction) (number : ℕ) (c : ChangeForm) (n : List ℕ) (k : Failure) (a b : ProgressForm) (before tree : List App) (v : View) → n ≡ c.name
    → ChangesProcesses {X = Unit {0}} s past mode number c (Ok tt) a before v → b.held ≡ a.held → is_super (tables_among a.next n) ≡ true → cause_of k.cause ≡ no_memory → k.modules ≡ number → k.slot ≡ slots
    → ChangesOnce {X = Unit {0}} s past mode number c (Err k) b tree v
supervisors_not_changed s past mode number c n k a b before tree v named did held asks cause counted at =
    let old = old_version s mode c.name past.run in
    let super : is_super (tables_among past.run.modules c.name) ≡ true = (λ j. is_super (tables_among (sym did.1.next j) (sym named j))) ∙ asks in
    let users = modules_by_slot_in past.run in (
      subst (λ (x : Cause). IsCause (change_fault s mode (c ∷ []) (values_seen v) past.run) x) (sym cause) tt,
      counted,
      subst (λ (x : Cause). UnlessMemory x (is_stuck_at old c k.slot (values_seen v) past.run ≡ true)) (sym cause) tt,
      subst (λ (m : ℕ). AllFollow past.first (change_within c.name old c m users past.run.courses) b.held v) (sym at)
          (subst (λ (hs : HeldSlots). AllFollow past.first (change_within c.name old c slots users past.run.courses) hs v) (sym held)
          (follow_same past.first (change_courses c.name old c users past.run.courses) (change_within c.name old c slots users past.run.courses) a.held v
          (change_all_within c.name old c users past.run.courses) did.1.follow)),
      λ _. ap (λ (b : Bool). is_some old && holds_user users c.name past.run.courses || b) super ∙ or_true (is_some old && holds_user users c.name past.run.courses),
    )

-- without a mode it is up
pub mode_is : (m : Option Direction) → unwrap_or m Up ≡ mode_of m
mode_is None = refl
mode_is (Some d) = refl

-- what was done after some of the changes
abbrev pub past_changes : Site → Direction → List ChangeForm → Past → Past
past_changes s mode cs past = record past { run = changed s mode cs past.run }

behind_first : (b : Bool) (o p q : Option Cause) → (o ≡ None → p ≡ q) → (if b then Some no_change else o) ≡ None → (if b then Some no_change else p) ≡ q
behind_first true o p q others e = absurd (cc e)
behind_first false o p q others e = others e

-- after changes that can be made, the others
pub fault_behind : (s : Site) (mode : Direction) (front rest : List ChangeForm) (seen : Values) (r : Run) → change_fault s mode front seen r ≡ None
    → change_fault s mode (front ++ rest) seen r ≡ change_fault s mode rest seen (changed s mode front r)
fault_behind s mode [] rest seen r none = refl
fault_behind s mode (c ∷ cs) rest seen r none =
    let next = changed_once s mode c r in
    behind_first (is_stuck (old_version s mode c.name r) c seen r) (change_fault s mode cs seen next) (change_fault s mode (cs ++ rest) seen next) (change_fault s mode rest seen (changed s mode cs next))
    (fault_behind s mode cs rest seen next) none

-- the first that fails reports why
first_fails : (b : Bool) (o : Option Cause) (k : Cause) → IsCause (if b then Some no_change else None) k → IsCause (if b then Some no_change else o) k
first_fails true o k is = is
first_fails false o no_memory is = tt
first_fails false o k is = absurd (cc is)

no_fault_first : (b : Bool) (o : Option Cause) → (if b then Some no_change else o) ≡ None → (b ≡ false) × (o ≡ None)
no_fault_first true o e = absurd (cc e)
no_fault_first false o e = (refl, e)

-- where those in front can be made, it is the first that can't
first_behind : (s : Site) (mode : Direction) (front : List ChangeForm) (c : ChangeForm) (rest : List ChangeForm) (slot : ℕ) (seen : Values) (r : Run) → change_fault s mode front seen r ≡ None
    → is_stuck_at (old_version s mode c.name (changed s mode front r)) c slot seen (changed s mode front r) ≡ is_first_stuck s mode (front ++ (c ∷ rest)) (length front) slot seen r
first_behind s mode [] c rest slot seen r none = refl
first_behind s mode (d ∷ front) c rest slot seen r none =
    let next = changed_once s mode d r in
    let both = no_fault_first (is_stuck (old_version s mode d.name r) d seen r) (change_fault s mode front seen next) none in
    first_behind s mode front c rest slot seen next both.1
    ∙ ap (λ (b : Bool). not b && is_first_stuck s mode (front ++ (c ∷ rest)) (length front) slot seen next) (sym both.0)

-- where those in front can be made, it asks for memory as it does after them
asks_behind : (s : Site) (mode : Direction) (front : List ChangeForm) (c : ChangeForm) (rest : List ChangeForm) (seen : Values) (r : Run) → change_fault s mode front seen r ≡ None
    → change_asks s mode c (changed s mode front r) ≡ true → changes_ask s mode (front ++ (c ∷ rest)) seen r ≡ true
asks_behind s mode [] c rest seen r none asks =
    ap (λ (b : Bool). b || (not (is_stuck (old_version s mode c.name r) c seen r) && changes_ask s mode rest seen (changed_once s mode c r))) asks
asks_behind s mode (d ∷ front) c rest seen r none asks =
    let next = changed_once s mode d r in
    let both = no_fault_first (is_stuck (old_version s mode d.name r) d seen r) (change_fault s mode front seen next) none in
    ap₂ (λ (b x : Bool). change_asks s mode d r || (not b && x)) both.0 (asks_behind s mode front c rest seen next both.1 asks) ∙ or_true (change_asks s mode d r)

-- one more change was made
pub changed_more : (s : Site) (past : Past) (mode : Direction) (number : ℕ) (front : List ChangeForm) (c : ChangeForm) (all : List ChangeForm) (a : ProgressForm) (tree : List App) (v : View) → all ≡ front ++ c ∷ []
    → change_fault s mode front (values_seen v) past.run ≡ None → ChangesOnce {X = Unit {0}} s (past_changes s mode front past) mode number c (Ok tt) a tree v
    → (change_fault s mode all (values_seen v) past.run ≡ None) × HasDone (past_changes s mode all past) a tree v
changed_more s past mode number front c all a tree v grown none once = (
  ap (λ (cs : List ChangeForm). change_fault s mode cs (values_seen v) past.run) grown ∙ (fault_behind s mode front (c ∷ []) (values_seen v) past.run none ∙ once.0),
  subst (λ (cs : List ChangeForm). HasDone (past_changes s mode cs past) a tree v) (sym grown)
      (subst (λ (r : Run). HasDone (record past { run = r }) a tree v) (sym (changed_push s mode front c past.run)) once.1),
)

-- all changes were made
pub all_changed : (s : Site) (past : Past) (early : Bool) (conversion : ConversionForm) (mode : Direction) (cs : List ChangeForm) (b a : ProgressForm) (before tree : List App) (v : View) → mode ≡ mode_of conversion.mode
    → cs ≡ conversion.changes → HasDone past b before v → (change_fault s mode cs (values_seen v) past.run ≡ None) × HasDone (past_changes s mode cs past) a tree v
    → CarriesOut {X = Unit {0}} s past early (code_change conversion) (Ok tt) a tree v v
all_changed s past early conversion mode cs b a before tree v moded whole done did = (
  (v, (seen_in past b before v done, sym (λ j. change_fault s (moded j) (whole j) (values_seen v) past.run) ∙ did.0, refl), longer_still v, longer_still v),
  subst (λ (m : Direction). HasDone (record past { run = changed s m conversion.changes past.run }) a tree v) moded
      (subst (λ (ds : List ChangeForm). HasDone (record past { run = changed s mode ds past.run }) a tree v) whole did.1),
)

-- A change of code fails where one of its changes can't be made.
pub change_stops : (s : Site) (past : Past) (early : Bool) (conversion : ConversionForm) (mode : Direction) (number : ℕ) (front : List ChangeForm) (c : ChangeForm) (rest : List ChangeForm) (e : Failure) (a : ProgressForm) (tree : List App) (v : View)
    → mode ≡ mode_of conversion.mode → conversion.changes ≡ front ++ (c ∷ rest) → length front ≡ number → change_fault s mode front (values_seen v) past.run ≡ None
    → ChangesOnce {X = Unit {0}} s (past_changes s mode front past) mode number c (Err e) a tree v
    → CarriesOut {X = Unit {0}} s past early (code_change conversion) (Err e) a tree v v
change_stops s past early conversion mode number front c rest e a tree v moded parts long none once =
    let seen = values_seen v in
    let behind = changed s mode front past.run in
    let why : IsCause (change_fault s mode (front ++ (c ∷ rest)) seen past.run) (cause_of e.cause) =
    subst (λ (o : Option Cause). IsCause o (cause_of e.cause)) (sym (fault_behind s mode front (c ∷ rest) seen past.run none))
    (first_fails (is_stuck (old_version s mode c.name behind) c seen behind) (change_fault s mode rest seen (changed_once s mode c behind)) (cause_of e.cause) once.0) in
    let at : changed_within s mode (front ++ (c ∷ rest)) e.modules e.slot past.run ≡ change_within c.name (old_version s mode c.name behind) c e.slot (modules_by_slot_in behind) behind.courses =
    ap (λ (n : ℕ). changed_within s mode (front ++ (c ∷ rest)) n e.slot past.run) (once.1 ∙ sym long) ∙ changed_stopped s mode front c rest e.slot past.run in
    let its : AllFollow past.first (changed_within s mode (front ++ (c ∷ rest)) e.modules e.slot past.run) a.held v = subst (λ (cs : Courses). AllFollow past.first cs a.held v) (sym at) once.3 in
    let first : UnlessMemory (cause_of e.cause) (is_first_stuck s mode (front ++ (c ∷ rest)) e.modules e.slot seen past.run ≡ true) =
    subst (λ (b : Bool). UnlessMemory (cause_of e.cause) (b ≡ true))
    (first_behind s mode front c rest e.slot seen past.run none ∙ ap (λ (n : ℕ). is_first_stuck s mode (front ++ (c ∷ rest)) n e.slot seen past.run) (long ∙ sym once.1)) once.2 in
    let follow : AllFollow past.first (changed_within s (mode_of conversion.mode) conversion.changes e.modules e.slot past.run) a.held v =
    subst (λ (m : Direction). AllFollow past.first (changed_within s m conversion.changes e.modules e.slot past.run) a.held v) moded
    (subst (λ (cs : List ChangeForm). AllFollow past.first (changed_within s mode cs e.modules e.slot past.run) a.held v) (sym parts) its) in (
      cause_seen past.first v past.run (change_fault s (mode_of conversion.mode) conversion.changes seen past.run) (cause_of e.cause)
          (subst (λ (m : Direction). IsCause (change_fault s m conversion.changes seen past.run) (cause_of e.cause)) moded
          (subst (λ (cs : List ChangeForm). IsCause (change_fault s mode cs seen past.run) (cause_of e.cause)) (sym parts) why))
          (seen_of past.first past.run (changed_within s (mode_of conversion.mode) conversion.changes e.modules e.slot past.run) a.held v
          (changed_within_same s (mode_of conversion.mode) conversion.changes e.modules e.slot past.run) follow),
      (
        λ memory. sym (λ j. changes_ask s (moded j) (sym parts j) seen past.run) ∙ asks_behind s mode front c rest seen past.run none (once.4 memory),
        subst (λ (m : Direction). UnlessMemory (cause_of e.cause) (is_first_stuck s m conversion.changes e.modules e.slot seen past.run ≡ true)) moded
            (subst (λ (cs : List ChangeForm). UnlessMemory (cause_of e.cause) (is_first_stuck s mode cs e.modules e.slot seen past.run ≡ true)) (sym parts) first),
      ),
      follow,
    )

-- The failure of a change of code is passed on, where one of its changes can't be made.
pub change_passes : {X : Type 0} (s : Site) (past : Past) (early : Bool) (conversion : ConversionForm) (mode : Direction) (number : ℕ) (front : List ChangeForm) (c : ChangeForm) (rest : List ChangeForm) (e : Failure) (r : Result X Failure) (a : ProgressForm) (tree : List App) (v : View)
    → mode ≡ mode_of conversion.mode → conversion.changes ≡ front ++ (c ∷ rest) → length front ≡ number → change_fault s mode front (values_seen v) past.run ≡ None
    → ChangesOnce {X = Unit {0}} s (past_changes s mode front past) mode number c (Err e) a tree v → IsErrAnd r (λ k. k ≡ e)
    → CarriesOut s past early (code_change conversion) r a tree v v
change_passes s past early conversion mode number front c rest e (Ok x) a tree v moded parts long none once passed = absurd passed
change_passes {X} s past early conversion mode number front c rest e (Err k) a tree v moded parts long none once passed =
    subst (λ (q : Failure). CarriesOut {X = X} s past early (code_change conversion) (Err q) a tree v v) (sym passed)
    (change_stops s past early conversion mode number front c rest e a tree v moded parts long none once)

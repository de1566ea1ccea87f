-- What a script leaves that fails after its point of no return, where the handler carries it out alone: one thing.
use Rattle.std.proofs.Common.{◌≡◌, ◌≢◌, ℕ, zero, suc, ◌<◌, nat_lt, Bool, true, false, true≢false, ◌&&◌, not, if◌then◌else◌, List, [], ◌∷◌, ◌++◌, length, Option, Some, None, refl, sym, ap, subst, ◌∙◌, arith}
use Rattle.std.proofs.lemmas.Bool.{ltb-true, ltb-false}
use Rattle.worker_table.specs.Table.{OldVersion, WorkerTable}
use Rattle.proc_table.specs.declared.view.View.{View}
use Rattle.proc_table.specs.Agrees.{slots}
use Rattle.proc_table.specs.Views.{seen}
use Rattle.relup_instruction.specs.declared.instruction.Direction.{Direction}
use Rattle.relup_instruction.specs.Instruction.{CallForm, ChangeForm, Instruction}
use Rattle.relup_instruction.specs.Instruction.Instruction.{apply, code_change, load, suspend}
use Rattle.loaded_modules.specs.Loaded.{Module, module_named}
use Rattle.sup_tree.specs.Children.{child_place, has_one_supervisor}
use Rattle.held_processes.specs.Course.{Courses, ModulesBySlot, added, on_all}
use Rattle.held_processes.specs.Course.Operation.{finish}
use Rattle.held_processes.specs.Following.{AreLeft}
use Rattle.held_processes.specs.Operations.{Values, any_below, is_lowest, lacks_row_at, values_seen}
use Rattle.held_processes.proofs.AnyLemmas.{any_found}
use Rattle.held_processes.proofs.StandLemmas.{stand_alone}
use Rattle.script_progress.specs.Calls.{ChildCall, child_call, is_on_child}
use Rattle.script_progress.specs.Calls.ChildCall.{terminates, deletes, restarts, nothing}
use Rattle.script_progress.specs.Fault.{Cause, fault, is_stuck, load_fault, table_fault}
use Rattle.script_progress.specs.Fault.Cause.{no_memory}
use Rattle.script_progress.specs.Script.{Run, Site, call_within, change_within, changed_once, changed_within, child_within, courses_within, load_within, mode_of, old_version, run_after, stays_at, modules_by_slot_in, worker_in}
use Rattle.script_progress.specs.Steps.{HasNoFaultAt, IsFault}
use Rattle.script_progress.specs.Stops.{CallStops, StopsAt, StopsIn, UnlessMemory, child_count, child_goes, is_first_stuck, is_stuck_at}
use Rattle.script_progress.proofs.CallLemmas.{left_true, right_true}
use Rattle.relup_file.specs.Script.{is_point}
use Rattle.relup_exec.specs.Alone.{LeavesOneHistory, values_alone}
use Rattle.relup_exec.specs.Outcome.{IsBroken, Ran, RanAll, Start, began_at, run_behind}
use Rattle.relup_exec.proofs.AloneLemmas.{Alike, child_alike, fault_is, row_alike, seen_alone, stays_alike, stuck_alike}
use Rattle.relup_exec.proofs.RunLemmas.{step_values, through_values}

-- of tests that agree one slot is the lowest
lowest_below : (f g : ℕ → Bool) (p q : ℕ) → ((n : ℕ) → n < slots → f n ≡ g n) → p < slots → is_lowest f p ≡ true → is_lowest g q ≡ true → p < q → ⊥
lowest_below f g p q same inside low lower less =
    let here : g p ≡ true = sym (same p inside) ∙ left_true (f p) (not (any_below f p)) low in
    let none : not (any_below g q) ≡ true = right_true (g q) (not (any_below g q)) lower in
    true≢false (sym none ∙ ap not (any_found g q p less here))

lowest_same : (f g : ℕ → Bool) (p q : ℕ) → ((n : ℕ) → n < slots → f n ≡ g n) → p < slots → q < slots → is_lowest f p ≡ true → is_lowest g q ≡ true → p ≡ q
lowest_same f g p q same inside within low lower = by (nat_lt p q) (nat_lt q p) refl refl
  where
    by : (a b : Bool) → nat_lt p q ≡ a → nat_lt q p ≡ b → p ≡ q
    by true b less more = absurd (lowest_below f g p q same inside low lower (ltb-true p q less))
    by false true less more = absurd (lowest_below g f q p (λ n inside. sym (same n inside)) within lower low (ltb-true q p more))
    by false false less more =
        let first = ltb-false p q less in
        let second = ltb-false q p more in
        omega (arith, first, second)

-- where a process is the first that can't be changed, one can't be
stuck_here : (old : Option OldVersion) (c : ChangeForm) (slot : ℕ) (f : Values) (r : Run) → is_stuck_at old c slot f r ≡ true → is_stuck old c f r ≡ true
stuck_here None c slot f r stuck = stuck
stuck_here (Some old) c slot f r stuck =
    let test = lacks_row_at old c.extra f (modules_by_slot_in r) c.name r.courses in
    let inside : slot < slots = ltb-true slot slots (left_true (nat_lt slot slots) (is_lowest test slot) stuck) in
    any_found test slots slot inside (left_true (test slot) (not (any_below test slot)) (right_true (nat_lt slot slots) (is_lowest test slot) stuck))

-- Values that are alike have one process that is the first whose code can't be changed: so the same was changed before it.
slot_same : (old : Option OldVersion) (name : List ℕ) (c : ChangeForm) (p q : ℕ) (f g : Values) (r : Run) → Alike f g → is_stuck_at old c p f r ≡ true → is_stuck_at old c q g r ≡ true
    → change_within name old c p (modules_by_slot_in r) r.courses ≡ change_within name old c q (modules_by_slot_in r) r.courses
slot_same None name c p q f g r same one other = refl
slot_same (Some old) name c p q f g r same one other =
    let left = lacks_row_at old c.extra f (modules_by_slot_in r) c.name r.courses in
    let right = lacks_row_at old c.extra g (modules_by_slot_in r) c.name r.courses in
    ap (λ (n : ℕ). change_within name (Some old) c n (modules_by_slot_in r) r.courses)
    (lowest_same left right p q (row_alike old c f g r same) (ltb-true p slots (left_true (nat_lt p slots) (is_lowest left p) one)) (ltb-true q slots (left_true (nat_lt q slots) (is_lowest right q) other))
    (right_true (nat_lt p slots) (is_lowest left p) one) (right_true (nat_lt q slots) (is_lowest right q) other))

-- Values that are alike have one change that is the first that can't be made: so the same was changed before it.
changes_same : (s : Site) (mode : Direction) (cs : List ChangeForm) (m n p q : ℕ) (f g : Values) (r : Run) → Alike f g → is_first_stuck s mode cs m p f r ≡ true → is_first_stuck s mode cs n q g r ≡ true
    → changed_within s mode cs m p r ≡ changed_within s mode cs n q r
changes_same s mode [] m n p q f g r same one other = absurd (cc one)
changes_same s mode (c ∷ cs) zero zero p q f g r same one other = slot_same (old_version s mode c.name r) c.name c p q f g r same one other
changes_same s mode (c ∷ cs) zero (suc n) p q f g r same one other =
    let old = old_version s mode c.name r in
    let stuck : is_stuck old c g r ≡ true = sym (stuck_alike old c f g r same) ∙ stuck_here old c p f r one in
    absurd (true≢false (sym (left_true (not (is_stuck old c g r)) (is_first_stuck s mode cs n q g (changed_once s mode c r)) other) ∙ ap not stuck))
changes_same s mode (c ∷ cs) (suc m) zero p q f g r same one other =
    let old = old_version s mode c.name r in
    let stuck : is_stuck old c f r ≡ true = stuck_alike old c f g r same ∙ stuck_here old c q g r other in
    absurd (true≢false (sym (left_true (not (is_stuck old c f r)) (is_first_stuck s mode cs m p f (changed_once s mode c r)) one) ∙ ap not stuck))
changes_same s mode (c ∷ cs) (suc m) (suc n) p q f g r same one other =
    let old = old_version s mode c.name r in
    let next = changed_once s mode c r in
    changes_same s mode cs m n p q f g next same (right_true (not (is_stuck old c f r)) (is_first_stuck s mode cs m p f next) one)
    (right_true (not (is_stuck old c g r)) (is_first_stuck s mode cs n q g next) other)

-- a call on a child counts one
count_same : (c : Cause) (call : ChildCall) (f g : Values) (r : Run) → Alike f g → child_count f c call r ≡ child_count g c call r
count_same c (terminates super id) f g r same = refl
count_same c (deletes super id) f g r same = refl
count_same c (restarts super id) f g r same =
    ap (λ (b : Bool). if (has_one_supervisor super r.apps && not b) && child_goes c (child_place super id r.apps) r then 1 else 0) (child_alike f g (restarts super id) r same)
count_same c nothing f g r same = refl

call_same : (call : CallForm) (first u v : View) (c : Cause) (m n : ℕ) (r : Run) → Alike (values_seen u) (values_seen v) → CallStops first u r call c m → CallStops first v r call c n → call_within call m r ≡ call_within call n r
call_same call first u v c m n r same one other = by (is_on_child call) refl
  where
    by : (b : Bool) → is_on_child call ≡ b → call_within call m r ≡ call_within call n r
    by true on_child = ap (λ (k : ℕ). call_within call k r) ((one on_child).1 ∙ (count_same c (child_call call) (values_seen u) (values_seen v) r same ∙ sym (other on_child).1))
    by false elsewhere = ap (λ (b : Bool). if b then child_within (child_call call) m r else r.courses) elsewhere ∙ sym (ap (λ (b : Bool). if b then child_within (child_call call) n r else r.courses) elsewhere)

-- a load that fails, but for memory, does nothing
load_same : (early : Bool) (name : List ℕ) (o : Option Module) (p q : ℕ) (users : ModulesBySlot) (cs : Courses) (c : Cause) → load_fault o users name ≡ Some c
    → load_within early name (worker_in o) p users cs ≡ load_within early name (worker_in o) q users cs
load_same early name None p q users cs c fails = refl
load_same early name (Some m) p q users cs c fails = by (worker_in (Some m)) refl
  where
    by : (w : Option WorkerTable) → worker_in (Some m) ≡ w → load_within early name (worker_in (Some m)) p users cs ≡ load_within early name (worker_in (Some m)) q users cs
    by None is = ap (λ (w : Option WorkerTable). load_within early name w p users cs) is ∙ sym (ap (λ (w : Option WorkerTable). load_within early name w q users cs) is)
    by (Some w) is = absurd (let no = sym (ap (λ (v : Option WorkerTable). table_fault v users name) is) ∙ fails in cc no)

known : (c : Cause) (P : Type 0) → c ≢ no_memory → UnlessMemory c P → P
known no_memory P other h = absurd (other refl)
known c P other h = h

-- what was done of an instruction that fails, but for memory
pub partly_same : (s : Site) (i : Instruction) (first u v : View) (r : Run) (c : Cause) (m n p q : ℕ) → c ≢ no_memory → Alike (values_seen u) (values_seen v) → fault s (values_seen u) r i ≡ Some c
    → StopsIn first s u r i c m p → StopsIn first s v r i c n q → courses_within s false i m p r ≡ courses_within s false i n q r
partly_same s (suspend ss) first u v r c m n p q other same fails one two = absurd (cc fails)
partly_same s (load f) first u v r c m n p q other same fails one two = load_same false f.name (module_named f.name r.fetched) p q (modules_by_slot_in r) r.courses c fails
partly_same s (code_change d) first u v r c m n p q other same fails one two =
    changes_same s (mode_of d.mode) d.changes m n p q (values_seen u) (values_seen v) r same (known c _ other one) (known c _ other two)
partly_same s (apply call) first u v r c m n p q other same fails one two = call_same call first u v c m n r same one two
partly_same s i first u v r c m n p q other same fails one two = refl

-- a script parted at one place
parted_same : (xs ys : List Instruction) (i j : Instruction) (as' bs : List Instruction) → xs ++ (i ∷ as') ≡ ys ++ (j ∷ bs) → length xs ≡ length ys → (xs ≡ ys) × (i ≡ j)
parted_same [] [] i j as' bs e long = (refl, cc e)
parted_same [] (y ∷ ys) i j as' bs e long = absurd (cc long)
parted_same (x ∷ xs) [] i j as' bs e long = absurd (cc long)
parted_same (x ∷ xs) (y ∷ ys) i j as' bs e long =
    let head : x ≡ y = cc e in
    let tail : xs ++ (i ∷ as') ≡ ys ++ (j ∷ bs) = cc e in
    let rest = parted_same xs ys i j as' bs tail (cc long) in
    (λ k. head k ∷ rest.0 k, rest.1)

-- one thing is reported of what was carried out
reported_is : (s : Site) (first u : View) (b : Bool) (i : Instruction) (r : Run) → first.lent ≡ [] → r.values ≡ values_seen first → HasNoFaultAt s first r b i u → b ≡ stays_at (values_alone r) i r
reported_is s first u b i r none values sound = sound.2 ∙ stays_alike (values_seen u) (values_alone r) i r (seen_alone first r u none values sound.0)

reported_same : (s : Site) (first since now from to : View) (e : Bool) (ts us : List Bool) (is : List Instruction) (r : Run) → first.lent ≡ [] → r.values ≡ values_seen first
    → RanAll s first since now e ts is r → RanAll s first from to e us is r → ts ≡ us
reported_same s first since now from to e ts us [] r none values one two = one.0 ∙ sym two.0
reported_same s first since now from to true ts us (i ∷ is) r none values one two =
    reported_same s first one.1 now two.1 to (not (is_point i)) ts us is (run_after s true false i r) none (step_values s true false i r ∙ values) one.4 two.4
reported_same s first since now from to false [] us (i ∷ is) r none values one two = absurd one
reported_same s first since now from to false (b ∷ ts) [] (i ∷ is) r none values one two = absurd two
reported_same s first since now from to false (b ∷ ts) (d ∷ us) (i ∷ is) r none values one two =
    let same : b ≡ d = reported_is s first one.3.0.0 b i r none values one.3.0.1 ∙ sym (reported_is s first two.3.0.0 d i r none values two.3.0.1) in
    let rest = reported_same s first one.1 now two.1 to false ts us is (run_after s false b i r) none (step_values s false b i r ∙ values) one.4
    (subst (λ (x : Bool). RanAll s first two.1 to false us is (run_after s false x i r)) (sym same) two.4) in
    λ k. same k ∷ rest k

-- What is left where this instruction fails, after these.
record Breaks (s : Site) (start : Start) (front : List Instruction) (i : Instruction) (reported : List Bool) (c : Cause) (v : View) : Type 0 where
  then_view : View
  fails : IsFault start.first s then_view (run_behind s start reported front) i c
  modules : ℕ
  slot : ℕ
  stops : StopsAt start.first s then_view (run_behind s start reported front) i c modules slot
  left : AreLeft start.first (on_all finish (courses_within s false i modules slot (run_behind s start reported front))) v

breaks_same : (s : Site) (start : Start) (front : List Instruction) (i : Instruction) (reported : List Bool) (c : Cause) (v w : View) → start.first.lent ≡ [] → c ≢ no_memory
    → Breaks s start front i reported c v → Breaks s start front i reported c w → (p : ℕ) → p < slots → seen v p ≡ seen w p
breaks_same s start front i reported c v w none other a b p inside =
    let first = start.first in
    let r = run_behind s start reported front in
    let values : r.values ≡ values_seen first = through_values s true reported front (began_at s start) in
    let fault_a = fault_is first s a.then_view r i c other a.fails in
    let fault_b = fault_is first s b.then_view r i c other b.fails in
    let alike : Alike (values_seen a.then_view) (values_seen b.then_view) =
    λ n within. seen_alone first r a.then_view none values fault_a.1 n within ∙ sym (seen_alone first r b.then_view none values fault_b.1 n within) in
    let same = partly_same s i first a.then_view b.then_view r c a.modules b.modules a.slot b.slot other alike fault_a.0 a.stops.1 b.stops.1 in
    stand_alone first.lent (seen first p) (on_all finish (courses_within s false i a.modules a.slot r) p).blocks (seen v p) none (a.left.each p inside).stand
    ∙ (ap (λ (cs : Courses). seen first p ++ added (on_all finish cs p).blocks) same
    ∙ sym (stand_alone first.lent (seen first p) (on_all finish (courses_within s false i b.modules b.slot r) p).blocks (seen w p) none (b.left.each p inside).stand))

breaks_of : (s : Site) (start : Start) (script : List Instruction) (number : ℕ) (c : Cause) (v : View) (b : IsBroken s start script number c v) → Breaks s start b.front b.instruction b.reported c v
breaks_of s start script number c v b = record { then_view = b.then_view; fails = b.fails; modules = b.modules; slot = b.slot; stops = b.stops; left = b.left }

pub leaves_one_history : LeavesOneHistory
leaves_one_history s start script number c v w none other a b =
    let parts = parted_same a.front b.front a.instruction b.instruction a.at.rest b.at.rest (sym a.at.is ∙ b.at.is) (omega (arith, a.at.counted, b.at.counted)) in
    let ran = subst (λ (is : List Instruction). Ran s start b.began b.reported is) (sym parts.0) b.ran in
    let reported = reported_same s start.first start.first a.began start.first b.began true a.reported b.reported a.front (began_at s start) none refl a.ran ran in
    let its = subst (λ (is : List Instruction). Breaks s start is b.instruction b.reported c w) (sym parts.0) (breaks_of s start script number c w b) in
    let now = subst (λ (i : Instruction). Breaks s start a.front i b.reported c w) (sym parts.1) its in
    breaks_same s start a.front a.instruction a.reported c v w none other (breaks_of s start script number c v a)
    (subst (λ (bs : List Bool). Breaks s start a.front a.instruction bs c w) (sym reported) now)

-- Instructions of a script one after another, the point of no return among them.
use Rattle.std.proofs.Common.{◌≡◌, ℕ, Bool, true, false, ◌&&◌, not, List, [], ◌∷◌, ◌++◌, length, ◌<◌, arith, refl, sym, ap, subst, ◌∙◌, ◌⊎◌, inl, inr, ⊎_elim, Option, Some, None, is_some, if◌then◌else◌}
use Rattle.std.specs.List.{AllByRecursion}
use Rattle.proc_table.specs.declared.view.View.{View}
use Rattle.relup_instruction.specs.Instruction.{CallForm, ChangeForm, Instruction}
use Rattle.relup_instruction.specs.Instruction.Instruction.{apply, code_change, point_of_no_return}
use Rattle.relup_file.specs.Script.{IsRunnable, is_point}
use Rattle.relup_file.proofs.ScriptLemmas.{are_early}
use Rattle.library.specs.Library.{Library}
use Rattle.loaded_modules.specs.Loaded.{NamedModules}
use Rattle.relup_instruction.specs.declared.instruction.Direction.{Direction}
use Rattle.started_members.specs.Places.{Place}
use Rattle.sup_tree.specs.Children.{child_place}
use Rattle.sup_tree.specs.Tree.{app_named}
use Rattle.held_processes.specs.Applications.{with_started}
use Rattle.held_processes.specs.Children.{with_deleted}
use Rattle.held_processes.specs.Following.{AreLonger}
use Rattle.held_processes.proofs.SlotLemmas.{longer_both, longer_still}
use Rattle.held_processes.specs.Operations.{Values}
use Rattle.script_progress.specs.Calls.{AppCall, ChildCall, app_call, child_call, is_on_child}
use Rattle.script_progress.specs.Calls.AppCall.{starts, stops, idle}
use Rattle.script_progress.specs.Calls.ChildCall.{terminates, deletes, restarts, nothing}
use Rattle.script_progress.specs.Script.{Run, Site, call_after, called_after, changed, changed_once, child_after, mode_of, restarted_at, run_after, scene_of, started_from, tables_among, target_library, with_scene}
use Rattle.relup_exec.specs.Outcome.{RanAll, RanAllLate, RanOne, run_through, still_early}
use Rattle.script_progress.specs.Steps.{IsEarly, IsLate}
use Rattle.relup_exec.proofs.RowLemmas.{all_middle}

-- after the point
pub still_behind : (is : List Instruction) → still_early false is ≡ false
still_behind [] = refl
still_behind (i ∷ is) = still_behind is

-- one instruction more, before the point
pub run_push_early : (s : Site) (e : Bool) (reported : List Bool) (is : List Instruction) (i : Instruction) (r : Run) → still_early e is ≡ true
    → run_through s e reported (is ++ i ∷ []) r ≡ run_after s true false i (run_through s e reported is r)
run_push_early s true reported [] i r early = refl
run_push_early s false reported [] i r early = absurd (cc early)
run_push_early s true reported (k ∷ is) i r early = run_push_early s (not (is_point k)) reported is i (run_after s true false k r) early
run_push_early s false reported (k ∷ is) i r early = absurd (let no = sym (still_behind is) ∙ early in cc no)

pub ran_push_early : (s : Site) (first since mid now : View) (e : Bool) (reported : List Bool) (is : List Instruction) (i : Instruction) (r : Run) → still_early e is ≡ true
    → RanAll s first since mid e reported is r → RanOne s first (run_through s e reported is r) false i mid now → RanAll s first since now e reported (is ++ i ∷ []) r
ran_push_early s first since mid now true reported [] i r early ran one = (mid, now, ran.1, one, (ran.0, longer_still now))
ran_push_early s first since mid now false reported [] i r early ran one = absurd (cc early)
ran_push_early s first since mid now true reported (k ∷ is) i r early ran one =
    (ran.0, ran.1, ran.2, ran.3, ran_push_early s first ran.1 mid now (not (is_point k)) reported is i (run_after s true false k r) early ran.4 one)
ran_push_early s first since mid now false reported (k ∷ is) i r early ran one = absurd (let no = sym (still_behind is) ∙ early in cc no)

-- one instruction more, of which this is reported, after the point
pub run_push_late : (s : Site) (first since now : View) (e : Bool) (reported : List Bool) (is : List Instruction) (b : Bool) (i : Instruction) (r : Run) → still_early e is ≡ false
    → RanAll s first since now e reported is r → run_through s e (reported ++ b ∷ []) (is ++ i ∷ []) r ≡ run_after s false b i (run_through s e reported is r)
run_push_late s first since now true reported [] b i r late ran = absurd (cc late)
run_push_late s first since now false [] [] b i r late ran = refl
run_push_late s first since now false (t ∷ ts) [] b i r late ran = absurd (let none = ran.0 in cc none)
run_push_late s first since now true reported (k ∷ is) b i r late ran = run_push_late s first ran.1 now (not (is_point k)) reported is b i (run_after s true false k r) late ran.4
run_push_late s first since now false [] (k ∷ is) b i r late ran = absurd ran
run_push_late s first since now false (t ∷ ts) (k ∷ is) b i r late ran = run_push_late s first ran.1 now false ts is b i (run_after s false t k r) late ran.4

pub ran_push_late : (s : Site) (first since mid now : View) (e : Bool) (reported : List Bool) (is : List Instruction) (b : Bool) (i : Instruction) (r : Run) → still_early e is ≡ false
    → RanAll s first since mid e reported is r → RanOne s first (run_through s e reported is r) b i mid now → RanAll s first since now e (reported ++ b ∷ []) (is ++ i ∷ []) r
ran_push_late s first since mid now true reported [] b i r late ran one = absurd (cc late)
ran_push_late s first since mid now false [] [] b i r late ran one = (mid, now, ran.1, one, (refl, longer_still now))
ran_push_late s first since mid now false (t ∷ ts) [] b i r late ran one = absurd (let none = ran.0 in cc none)
ran_push_late s first since mid now true reported (k ∷ is) b i r late ran one =
    (ran.0, ran.1, ran.2, ran.3, ran_push_late s first ran.1 mid now (not (is_point k)) reported is b i (run_after s true false k r) late ran.4 one)
ran_push_late s first since mid now false [] (k ∷ is) b i r late ran one = absurd ran
ran_push_late s first since mid now false (t ∷ ts) (k ∷ is) b i r late ran one =
    (ran.0, ran.1, ran.2, ran.3, ran_push_late s first ran.1 mid now false ts is b i (run_after s false t k r) late ran.4 one)

pub still_push : (e : Bool) (is : List Instruction) (i : Instruction) → still_early e (is ++ i ∷ []) ≡ (still_early e is && not (is_point i))
still_push e [] i = refl
still_push e (k ∷ is) i = still_push (e && not (is_point k)) is i

-- what was so is so when more is seen
pub ran_later : (s : Site) (first since v w : View) (e : Bool) (reported : List Bool) (is : List Instruction) (r : Run) → AreLonger v w → RanAll s first since v e reported is r → RanAll s first since w e reported is r
ran_later s first since v w e reported [] r longer ran = (ran.0, longer_both since v w ran.1 longer)
ran_later s first since v w true reported (i ∷ is) r longer ran =
    (ran.0, ran.1, ran.2, ran.3, ran_later s first ran.1 v w (not (is_point i)) reported is (run_after s true false i r) longer ran.4)
ran_later s first since v w false [] (i ∷ is) r longer ran = absurd ran
ran_later s first since v w false (b ∷ reported) (i ∷ is) r longer ran =
    (ran.0, ran.1, ran.2, ran.3, ran_later s first ran.1 v w false reported is (run_after s false b i r) longer ran.4)

-- what may stand before the point isn't the point
pub not_the_point : (i : Instruction) → IsEarly i → is_point i ≡ false
not_the_point point_of_no_return early = absurd (cc early)
not_the_point i early = refl

pub still_before : (is : List Instruction) → AllByRecursion IsEarly is → still_early true is ≡ true
still_before [] early = refl
still_before (i ∷ is) early = ap (λ b. still_early (not b) is) (not_the_point i early.0) ∙ still_before is early.1

pub behind_point : (front rest : List Instruction) (e : Bool) → still_early e (front ++ (point_of_no_return ∷ rest)) ≡ false
behind_point [] rest true = still_behind rest
behind_point [] rest false = still_behind rest
behind_point (i ∷ front) rest e = behind_point front rest (e && not (is_point i))

-- Nothing stands after the point yet.
pub late_at_first : (s : Site) (first since now : View) (front : List Instruction) (r : Run) → AllByRecursion IsEarly front → AreLonger since now
    → RanAllLate s first since now true [] (front ++ point_of_no_return ∷ []) r
late_at_first s first since now [] r early longer = (refl, longer)
late_at_first s first since now (i ∷ front) r early longer =
    let next = run_after s true false i r in
    subst (λ (b : Bool). RanAllLate s first since now (not b) [] (front ++ point_of_no_return ∷ []) next) (sym (not_the_point i early.0)) (late_at_first s first since now front next early.1 longer)

-- one instruction more after it
pub late_push : (s : Site) (first since mid now : View) (e : Bool) (reported : List Bool) (is : List Instruction) (b : Bool) (i : Instruction) (r : Run) → still_early e is ≡ false
    → RanAllLate s first since mid e reported is r → RanOne s first (run_through s e reported is r) b i mid now → RanAllLate s first since now e (reported ++ b ∷ []) (is ++ i ∷ []) r
late_push s first since mid now false reported is b i r late ran one = ran_push_late s first since mid now false reported is b i r late ran one
late_push s first since mid now true reported [] b i r late ran one = absurd ran
late_push s first since mid now true reported (k ∷ is) b i r late ran one = late_push s first since mid now (not (is_point k)) reported is b i (run_after s true false k r) late ran one

-- what was so is so when more is seen
pub late_later : (s : Site) (first since v w : View) (e : Bool) (reported : List Bool) (is : List Instruction) (r : Run) → AreLonger v w → RanAllLate s first since v e reported is r → RanAllLate s first since w e reported is r
late_later s first since v w false reported is r longer ran = ran_later s first since v w false reported is r longer ran
late_later s first since v w true reported [] r longer ran = absurd ran
late_later s first since v w true reported (i ∷ is) r longer ran = late_later s first since v w (not (is_point i)) reported is (run_after s true false i r) longer ran

early_or_point : (before after front : List Instruction) (i : Instruction) (rest : List Instruction) → AllByRecursion IsEarly before → AllByRecursion IsEarly front
    → before ++ (point_of_no_return ∷ after) ≡ front ++ (i ∷ rest) → IsEarly i ⊎ (i ≡ point_of_no_return)
early_or_point [] after [] i rest early so_far e = inr (sym (cc e))
early_or_point [] after (f ∷ fs) i rest early so_far e =
    let same : point_of_no_return ≡ f = cc e in
    let wrong : IsEarly point_of_no_return = subst IsEarly (sym same) so_far.0 in absurd (cc wrong)
early_or_point (b ∷ bs) after [] i rest early so_far e = let same : b ≡ i = cc e in inl (subst IsEarly same early.0)
early_or_point (b ∷ bs) after (f ∷ fs) i rest early so_far e = early_or_point bs after fs i rest early.1 so_far.1 (cc e)

-- the next instruction, which isn't the point, may stand before it
pub next_is_early : (script : List Instruction) (runnable : IsRunnable script) (front : List Instruction) (i : Instruction) (rest : List Instruction) → script ≡ front ++ (i ∷ rest)
    → AllByRecursion IsEarly front → is_point i ≡ false → IsEarly i
next_is_early script runnable front i rest parts so_far other =
    ⊎_elim (λ early. early) (λ is. absurd (cc (sym other ∙ ap is_point is)))
    (early_or_point runnable.before runnable.after front i rest (are_early runnable.before runnable.early) so_far (sym runnable.is ∙ parts))

-- not all may stand before the point
pub not_all_early : (script : List Instruction) → IsRunnable script → AllByRecursion IsEarly script → ⊥
not_all_early script runnable all =
    let wrong : IsEarly point_of_no_return = all_middle IsEarly runnable.before point_of_no_return runnable.after (subst (AllByRecursion IsEarly) runnable.is all) in
    cc wrong

-- after the first point stands what stands after the point of a script that can be run
pub late_behind : (before after front rest : List Instruction) → AllByRecursion IsEarly before → AllByRecursion IsLate after → AllByRecursion IsEarly front
    → before ++ (point_of_no_return ∷ after) ≡ front ++ (point_of_no_return ∷ rest) → AllByRecursion IsLate rest
late_behind [] after [] rest early late so_far e = let same : after ≡ rest = cc e in subst (AllByRecursion IsLate) same late
late_behind [] after (f ∷ fs) rest early late so_far e =
    let same : point_of_no_return ≡ f = cc e in
    let wrong : IsEarly point_of_no_return = subst IsEarly (sym same) so_far.0 in absurd (cc wrong)
late_behind (b ∷ bs) after [] rest early late so_far e =
    let same : b ≡ point_of_no_return = cc e in
    let wrong : IsEarly point_of_no_return = subst IsEarly same early.0 in absurd (cc wrong)
late_behind (b ∷ bs) after (f ∷ fs) rest early late so_far e = late_behind bs after fs rest early.1 late so_far.1 (cc e)

-- an instruction after so many more than those before the point may stand after it
pub late_at : (front rest done more : List Instruction) (i : Instruction) → AllByRecursion IsLate rest → front ++ (point_of_no_return ∷ rest) ≡ done ++ (i ∷ more) → length front < length done → IsLate i
late_at front rest [] more i late e far = absurd (omega (arith, far))
late_at [] rest (d ∷ done) more i late e far = (let same : rest ≡ done ++ (i ∷ more) = cc e in all_middle IsLate done i more (subst (AllByRecursion IsLate) same late))
late_at (f ∷ front) rest (d ∷ done) more i late e far = late_at front rest done more i late (cc e) (omega (arith, far))

changed_values : (s : Site) (mode : Direction) (cs : List ChangeForm) (r : Run) → (changed s mode cs r).values ≡ r.values
changed_values s mode [] r = refl
changed_values s mode (c ∷ cs) r = changed_values s mode cs (changed_once s mode c r)

either_values : (b : Bool) (r q : Run) → q.values ≡ r.values → (if b then r else q).values ≡ r.values
either_values true r q same = refl
either_values false r q same = same

started_values : (l : Option Library) (r : Run) → (started_from l r).values ≡ r.values
started_values None r = refl
started_values (Some l) r = either_values (is_some (app_named l.app.name r.apps)) r (with_scene r (with_started l.app.name l.app.top (tables_among r.modules) (scene_of r))) refl

called_values : (s : Site) (c : AppCall) (r : Run) → (called_after s c r).values ≡ r.values
called_values s (starts name) r = started_values (target_library s name) r
called_values s (stops name) r = refl
called_values s idle r = refl

restarted_values : (super id : List ℕ) (o : Option Place) (r : Run) → (restarted_at super id o r).values ≡ r.values
restarted_values super id None r = refl
restarted_values super id (Some p) r = refl

child_values : (c : ChildCall) (b : Bool) (r : Run) → (child_after c b r).values ≡ r.values
child_values (terminates super id) b r = refl
child_values (deletes super id) b r = either_values b r (with_scene r (with_deleted super id (scene_of r))) refl
child_values (restarts super id) b r = either_values b r (restarted_at super id (child_place super id r.apps) r) (restarted_values super id (child_place super id r.apps) r)
child_values nothing b r = refl

one_of_values : (b : Bool) (q q' : Run) (values : Values) → q.values ≡ values → q'.values ≡ values → (if b then q else q').values ≡ values
one_of_values true q q' values same same' = same
one_of_values false q q' values same same' = same'

call_values : (s : Site) (c : CallForm) (b : Bool) (r : Run) → (call_after s c b r).values ≡ r.values
call_values s c b r =
    one_of_values (is_on_child c) (child_after (child_call c) b r) (called_after s (app_call c) r) r.values (child_values (child_call c) b r) (called_values s (app_call c) r)

pub step_values : (s : Site) (e : Bool) (b : Bool) (i : Instruction) (r : Run) → (run_after s e b i r).values ≡ r.values
step_values s e b (code_change c) r = changed_values s (mode_of c.mode) c.changes r
step_values s e b (apply c) r = call_values s c b r
step_values s e b i r = refl

-- what stood in the slots at first is kept
pub through_values : (s : Site) (e : Bool) (reported : List Bool) (is : List Instruction) (r : Run) → (run_through s e reported is r).values ≡ r.values
through_values s e reported [] r = refl
through_values s true reported (i ∷ is) r = through_values s (not (is_point i)) reported is (run_after s true false i r) ∙ step_values s true false i r
through_values s false [] (i ∷ is) r = refl
through_values s false (b ∷ reported) (i ∷ is) r = through_values s false reported is (run_after s false b i r) ∙ step_values s false b i r

-- changes of code and calls leave what is loaded
pub changed_modules : (s : Site) (mode : Direction) (cs : List ChangeForm) (r : Run) → (changed s mode cs r).modules ≡ r.modules
changed_modules s mode [] r = refl
changed_modules s mode (c ∷ cs) r = changed_modules s mode cs (changed_once s mode c r)

either_modules : (b : Bool) (q q' : Run) (ms : NamedModules) → q.modules ≡ ms → q'.modules ≡ ms → (if b then q else q').modules ≡ ms
either_modules true q q' ms one other = one
either_modules false q q' ms one other = other

started_modules : (l : Option Library) (r : Run) → (started_from l r).modules ≡ r.modules
started_modules None r = refl
started_modules (Some l) r = either_modules (is_some (app_named l.app.name r.apps)) r (with_scene r (with_started l.app.name l.app.top (tables_among r.modules) (scene_of r))) r.modules refl refl

called_modules : (s : Site) (c : AppCall) (r : Run) → (called_after s c r).modules ≡ r.modules
called_modules s (starts name) r = started_modules (target_library s name) r
called_modules s (stops name) r = refl
called_modules s idle r = refl

restarted_modules : (super id : List ℕ) (o : Option Place) (r : Run) → (restarted_at super id o r).modules ≡ r.modules
restarted_modules super id None r = refl
restarted_modules super id (Some p) r = refl

child_modules : (c : ChildCall) (b : Bool) (r : Run) → (child_after c b r).modules ≡ r.modules
child_modules (terminates super id) b r = refl
child_modules (deletes super id) b r = either_modules b r (with_scene r (with_deleted super id (scene_of r))) r.modules refl refl
child_modules (restarts super id) b r = either_modules b r (restarted_at super id (child_place super id r.apps) r) r.modules refl (restarted_modules super id (child_place super id r.apps) r)
child_modules nothing b r = refl

pub call_modules : (s : Site) (c : CallForm) (b : Bool) (r : Run) → (call_after s c b r).modules ≡ r.modules
call_modules s c b r = either_modules (is_on_child c) (child_after (child_call c) b r) (called_after s (app_call c) r) r.modules (child_modules (child_call c) b r) (called_modules s (app_call c) r)

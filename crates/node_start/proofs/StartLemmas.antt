-- Applications that are started one after another.
use Rattle.std.proofs.Common.{◌≡◌, ℕ, ◌+◌, ◌<◌, ◌≤◌, Bool, true, false, cond, List, [], ◌∷◌, ◌++◌, length, map, drop, get_or, min, Option, Some, None, Ok, Contains, refl, ap, sym, subst, ◌∙◌, ⊎_elim, arith, append-nil, append_assoc}
use Rattle.std.specs.List.{AllByRecursion}
use Rattle.std.specs.Str.{bytes_eq}
use Rattle.std.proofs.lemmas.Bool.{cases_lt}
use Rattle.std.proofs.lemmas.Slice.Eq.{bytes_eq-Decides}
use Rattle.std.proofs.lemmas.List.{drop_more, drop_all, length-map, map_push}
use Rattle.std.proofs.Math.ListN.{get_or-map}
use Rattle.std.specs.declared.alloc.Global.{Global}
use Rattle.std.specs.declared.rc.Rc.{Rc}
use Rattle.std.proofs.lemmas.List.Sums.{sum_by-cons}
use Rattle.proc_table.specs.declared.view.View.{View}
use Rattle.proc_table.specs.Free.{free_count, BeganLowest}
use Rattle.proc_table.proofs.CountLemmas.{begins_take_one}
use Rattle.proc_table.proofs.WaitLemmas.{since, elsewhere_left}
use Rattle.rel_files.specs.AppInMemory.{specification_of}
use Rattle.rel_files.specs.declared.release.RelApp.{RelApp}
use Rattle.rel_files.specs.Release.{Application, application_of}
use Rattle.library.specs.declared.library.Library as declared
use Rattle.library.specs.InMemory.{shared_of}
use Rattle.library.specs.Library.{Library}
use Rattle.rel_check.specs.Modules.{Part, parts}
use Rattle.mod_table.specs.Tables.{Tables}
use Rattle.rel_check.specs.Walk.{is_started}
use Rattle.rel_check.proofs.Members.{first_member, later_member}
use Rattle.started_members.specs.declared.member.StartedProcess.{StartedProcess}
use Rattle.started_members.specs.declared.begins.NewProcess.{NewProcess}
use Rattle.started_members.specs.declared.begins.Preparation.{Preparation}
use Rattle.started_members.specs.declared.member.Member.{Member}
use Rattle.started_members.specs.Begins.{beginning_of, BeganInOrder}
use Rattle.started_members.specs.Members.{process_and}
use Rattle.started_members.specs.Preparations.{AllBegan, IsBegunWith, to_begin}
use Rattle.sup_tree.specs.declared.begins.NewApp.{NewApp}
use Rattle.sup_tree.specs.declared.tree.StartedApp.{StartedApp}
use Rattle.sup_tree.specs.Starts.{AppBegan, AppStarted, HasRoom, IsReady}
use Rattle.sup_tree.specs.Tree.{App, app_named, app_of, is_named}
use Rattle.sup_tree.proofs.AppLemmas.{ready_began, ready_starts}
use Rattle.app_members.specs.Walk.{Start, app_fault, app_members}
use Rattle.held_processes.proofs.NothingHeldLemmas.{started_nothing}
use Rattle.node_processes.specs.Fresh.{part_starts, started_parts}
use Rattle.node_start.specs.Starting.{AppsBegan, AreReady, HasNoFault, HaveMemory, IsAlone, IsNew, StartedAll, number_to_begin, part_name, starts_in_all}

-- a process that begins leaves the handler's passes as they are
pub begin_lends_none : (app : List ℕ) (s : Start) (v u : View) (p : StartedProcess) → BeganLowest (beginning_of app s) v (Ok p.pid) u → u.lent ≡ v.lent
begin_lends_none app s v u p (lowest, began) =
    (elsewhere_left p.pid.slot _ began.1 u began.6).lent ∙ (since p.pid.slot v began.0 began.1 began.2).elsewhere.lent

-- All processes that an application starts leave the passes that were lent, and each takes one of the free slots.
pub begins_in_order : (app : List ℕ) (ss : List Start) (v w : View) (ps : List StartedProcess) → BeganInOrder app ss v ps w
    → (w.lent ≡ v.lent) × (free_count v ≡ free_count w + length ss)
begins_in_order app [] v w [] is = (ap (λ (z : View). z.lent) is, let same : free_count w ≡ free_count v = ap free_count is in omega (arith, same))
begins_in_order app [] v w (p ∷ ps) is = absurd is
begins_in_order app (s ∷ ss) v w [] is = absurd is
begins_in_order app (s ∷ ss) v w (p ∷ ps) (u, began, is, later) =
    let rest = begins_in_order app ss u w ps later in
    let one = begins_take_one.0 (beginning_of app s) v u p.pid began in
    let more = rest.1 in
    (rest.0 ∙ begin_lends_none app s v u p began, omega (arith, one, more))

-- no pass is lent by an application that starts
pub app_lends_none : (name : List ℕ) (top : Option (List ℕ)) (tables : Tables) (apps apps' : List App) (v w : View) → AppStarted name top tables apps v apps' w → w.lent ≡ v.lent
app_lends_none name top tables apps apps' v w started = (begins_in_order name _ v w started.processes started.began).0

not_found_behind : (apps : List App) (a : App) (name : List ℕ) → app_named name apps ≡ None → bytes_eq a.name name ≡ false → app_named name (apps ++ a ∷ []) ≡ None
not_found_behind [] a name none other = ap (λ b. cond b (Some a) None) other
not_found_behind (b ∷ apps) a name none other = go (is_named name b) (not_found_behind apps a name) none
  where
    go : (t : Bool) → (app_named name apps ≡ None → bytes_eq a.name name ≡ false → app_named name (apps ++ a ∷ []) ≡ None)
        → cond t (Some b) (app_named name apps) ≡ None → cond t (Some b) (app_named name (apps ++ a ∷ [])) ≡ None
    go true behind none = absurd cc
    go false behind none = behind none other

differ : (a b : List ℕ) → (a ≡ b → ⊥) → bytes_eq a b ≡ false
differ a b apart = go (bytes_eq a b) refl
  where
    go : (x : Bool) → bytes_eq a b ≡ x → x ≡ false
    go true is = absurd (apart ((bytes_eq-Decides a b).0 is))
    go false is = refl

-- The applications that are left aren't started either, since no name stands twice.
still_new : (ps : List Part) (apps : List App) (a : App) → AllByRecursion (IsNew apps) ps → (Contains (map part_name ps) a.name → ⊥) → AllByRecursion (IsNew (apps ++ a ∷ [])) ps
still_new [] apps a all apart = tt
still_new (p ∷ ps) apps a all apart = (
  not_found_behind apps a (part_name p) all.0 (differ a.name (part_name p) (λ same. apart (subst (Contains (map part_name (p ∷ ps))) (sym same) (first_member (part_name p) (map part_name ps))))),
  still_new ps apps a all.1 (λ within. apart (later_member (part_name p) (map part_name ps) a.name within)),
)

-- the parts from a place on
from_place : (as' : List Application) (ls : List Library) (k : ℕ) (a : Application) (l : Library) → k < length as' → k < length ls → get_or as' k a ≡ a → get_or ls k l ≡ l
    → parts (drop k as') (drop k ls) ≡ record { app = a; library = l } ∷ parts (drop (k + 1) as') (drop (k + 1) ls)
from_place as' ls k a l within too at there =
    (λ i. parts ((drop_more as' k a within ∙ ap (λ b. b ∷ drop (k + 1) as') at) i) ((drop_more ls k l too ∙ ap (λ m. m ∷ drop (k + 1) ls) there) i))

-- what is left where the application in this place is started, or passed over
left_behind : (b : Bool) (as' : List Application) (ls : List Library) (k : ℕ) (a : Application) (l : Library)
    → k < length as' → k < length ls → get_or as' k a ≡ a → get_or ls k l ≡ l → is_started a.start ≡ b
    → started_parts (parts (drop k as') (drop k ls))
    ≡ cond b (record { app = a; library = l } ∷ started_parts (parts (drop (k + 1) as') (drop (k + 1) ls))) (started_parts (parts (drop (k + 1) as') (drop (k + 1) ls)))
left_behind b as' ls k a l within too at there starts =
    let left = started_parts (parts (drop (k + 1) as') (drop (k + 1) ls)) in
    ap started_parts (from_place as' ls k a l within too at there) ∙ ap (λ c. cond c (record { app = a; library = l } ∷ left) left) starts

no_libraries : (as' : List Application) → parts as' [] ≡ []
no_libraries [] = refl
no_libraries (a ∷ as') = refl

-- an application that starts leaves those that are left ready
left_ready : (tables : Tables) (p : Part) (left : List Part) (mid mid' : List App) (u u' : View) → AppStarted (part_name p) p.library.app.top tables mid u mid' u'
    → AreReady tables (p ∷ left) mid u → AreReady tables left mid' u'
left_ready tables p left mid mid' u u' started ready =
    let counted = (begins_in_order (part_name p) (part_starts tables p) u u' started.processes started.began).1 in
    let room = ready.room in
    let sum = sum_by-cons (λ q. length (part_starts tables q)) p left in record {
      new = subst (λ as'. AllByRecursion (IsNew as') left) (sym started.tree) (still_new left mid _ ready.new.1 ready.distinct.0);
      distinct = ready.distinct.1;
      sound = ready.sound.1;
      room = omega (arith, counted, room, sum);
    }

-- Applications for which memory was there began: they are started, one after another.
pub all_started : (tables : Tables) (ps : List Part) (ns : List NewApp) (apps as' : List App) (v w : View) → AreReady tables ps apps v → HaveMemory tables ps ns
    → AppsBegan ns v as' w → StartedAll tables ps apps v (apps ++ as') w
all_started tables [] [] apps [] v w ready memory began = (append-nil apps, began)
all_started tables [] [] apps (a ∷ as') v w ready memory began = absurd began
all_started tables [] (n ∷ ns) apps as' v w ready memory began = absurd memory
all_started tables (p ∷ ps) [] apps as' v w ready memory began = absurd memory
all_started tables (p ∷ ps) (n ∷ ns) apps [] v w ready memory began = absurd began
all_started tables (p ∷ ps) (n ∷ ns) apps (a ∷ as') v w ready (mine, others) (u, first, later) =
    let begun = ready_began (part_name p) (app_members tables p.library.app.top) n v a u mine first in
    let started : AppStarted (part_name p) p.library.app.top tables apps v (apps ++ a ∷ []) u = record {
      new = ready.new.0;
      sound = ready.sound.0;
      processes = begun.processes;
      began = begun.began;
      tree = ap (λ (b : App). apps ++ b ∷ []) begun.stands;
    } in
    let left = left_ready tables p ps apps (apps ++ a ∷ []) v u started ready in (
      apps ++ a ∷ [],
      u,
      started,
      subst (λ l. StartedAll tables ps (apps ++ a ∷ []) u l w) (append_assoc apps (a ∷ []) as') (all_started tables ps ns (apps ++ a ∷ []) as' u w left others later),
    )

-- the handler has lent no pass then, and holds no process
pub still_alone : (tables : Tables) (ps : List Part) (apps apps' : List App) (v w : View) → IsAlone v → StartedAll tables ps apps v apps' w → IsAlone w
still_alone tables [] apps apps' v w alone (same, stays) = subst IsAlone (sym stays) alone
still_alone tables (p ∷ ps) apps apps' v w alone (mid, u, started, later) =
    still_alone tables ps mid apps' u w (record {
      lent = app_lends_none _ _ _ _ _ _ _ started ∙ alone.lent;
      free = started_nothing _ _ _ _ _ _ _ alone.free started;
    }) later

-- as many processes are to begin as the applications start, and there is room for the members of each
pub as_many_begin : (tables : Tables) (ps : List Part) (ns : List NewApp) → HaveMemory tables ps ns → (number_to_begin ns ≡ starts_in_all tables ps) × AllByRecursion HasRoom ns
as_many_begin tables [] [] memory = (refl, tt)
as_many_begin tables [] (n ∷ ns) memory = absurd memory
as_many_begin tables (p ∷ ps) [] memory = absurd memory
as_many_begin tables (p ∷ ps) (n ∷ ns) (mine, others) =
    let here = ready_starts (part_name p) (app_members tables p.library.app.top) n mine in
    let later = as_many_begin tables ps ns others in (
      sum_by-cons (λ (m : NewApp). length (to_begin m.prepared.items)) n ns
          ∙ ((λ j. here j + later.0 j) ∙ sym (sum_by-cons (λ (q : Part). length (part_starts tables q)) p ps)),
      (mine.room, later.1),
    )

-- those of the applications in memory that a boot starts, from this place on
abbrev pub left_from : List RelApp → List (Rc declared.Library Global) → ℕ → List Part
left_from as' rcs n = started_parts (parts (drop n (map application_of as')) (drop n (map shared_of rcs)))

-- none is left
pub none_left : (as' : List RelApp) (rcs : List (Rc declared.Library Global)) (k : ℕ) → min (length as') (length rcs) ≤ k → left_from as' rcs k ≡ []
none_left as' rcs k none =
    let bs = map application_of as' in
    let ls = map shared_of rcs in
    let apps = length-map as' application_of in
    let libraries = length-map rcs shared_of in
    let left : parts (drop k bs) (drop k ls) ≡ [] = ⊎_elim
    (λ within. ap (parts (drop k bs)) (drop_all k ls (omega (arith, none, within, apps, libraries))) ∙ no_libraries (drop k bs))
    (λ past. ap (λ cs. parts cs (drop k ls)) (drop_all k bs past))
    (cases_lt k (length bs)) in
    ap started_parts left

-- Whatever memory is taken for those that are left completes what was taken so far.
abbrev pub TakesAll : Tables → List Part → List NewApp → List Part → Type 0
TakesAll tables all old left = (more : List NewApp) → HaveMemory tables left more → HaveMemory tables all (old ++ more)

-- what lies in memory in this place
module _ (as' : List RelApp) (rcs : List (Rc declared.Library Global)) (k : ℕ) (a : RelApp)
    (rc : Rc declared.Library Global) (within : k < min (length as') (length rcs)) (at : a ≡ get_or as' k a) (there : rc ≡ get_or rcs k rc) where
  pub from_here : (b : Bool) → is_started a.start ≡ b → left_from as' rcs k ≡ cond b (record { app = application_of a; library = shared_of rc } ∷ left_from as' rcs (k + 1)) (left_from as' rcs (k + 1))
  from_here b starts =
      left_behind b (map application_of as') (map shared_of rcs) k (application_of a) (shared_of rc)
      (let same = length-map as' application_of in omega (arith, within, same))
      (let same = length-map rcs shared_of in omega (arith, within, same))
      (get_or-map application_of as' k a ∙ ap application_of (sym at)) (get_or-map shared_of rcs k rc ∙ ap shared_of (sym there)) starts

  -- Nothing is wrong with the application in this place, where nothing is wrong with those that are left.
  pub sound_here : (tables : Tables) (l : declared.Library) → l ≡ rc.value → is_started a.start ≡ true → AllByRecursion (HasNoFault tables) (left_from as' rcs k)
      → app_fault tables (specification_of l.app).top ≡ None
  sound_here tables l is starts sound =
      subst (λ (m : declared.Library). app_fault tables (specification_of m.app).top ≡ None) (sym is)
      (subst (AllByRecursion (HasNoFault tables)) (from_here true starts) sound).0

  -- Nothing is wrong with the applications that are left after this place.
  pub sound_later : (tables : Tables) (b : Bool) → is_started a.start ≡ b → AllByRecursion (HasNoFault tables) (left_from as' rcs k) → AllByRecursion (HasNoFault tables) (left_from as' rcs (k + 1))
  sound_later tables b starts sound = go b (subst (AllByRecursion (HasNoFault tables)) (from_here b starts) sound)
    where
      go : (b : Bool) → AllByRecursion (HasNoFault tables) (cond b (record { app = application_of a; library = shared_of rc } ∷ left_from as' rcs (k + 1)) (left_from as' rcs (k + 1)))
          → AllByRecursion (HasNoFault tables) (left_from as' rcs (k + 1))
      go true all = all.1
      go false all = all

  -- memory was taken for it
  pub takes_one : (tables : Tables) (all : List Part) (old new : List NewApp) (l : declared.Library) (n : NewApp) → l ≡ rc.value → is_started a.start ≡ true
      → IsReady (specification_of l.app).name (app_members tables (specification_of l.app).top) n → new ≡ old ++ n ∷ []
      → TakesAll tables all old (left_from as' rcs k) → TakesAll tables all new (left_from as' rcs (k + 1))
  takes_one tables all old new l n is starts ready pushed so_far more others =
      let mine = subst (λ (m : declared.Library). IsReady (specification_of m.app).name (app_members tables (specification_of m.app).top) n) is ready in
      subst (HaveMemory tables all) (sym (append_assoc old (n ∷ []) more) ∙ ap (λ ns. ns ++ more) (sym pushed))
      (so_far (n ∷ more) (subst (λ ps. HaveMemory tables ps (n ∷ more)) (sym (from_here true starts)) (mine, others)))

  -- a boot doesn't start it
  pub takes_none : (tables : Tables) (all : List Part) (old : List NewApp) → is_started a.start ≡ false
      → TakesAll tables all old (left_from as' rcs k) → TakesAll tables all old (left_from as' rcs (k + 1))
  takes_none tables all old starts so_far = subst (TakesAll tables all old) (from_here false starts) so_far

-- all is taken where none is left
pub takes_all : (tables : Tables) (all left : List Part) (old : List NewApp) → left ≡ [] → TakesAll tables all old left → HaveMemory tables all old
takes_all tables all left old none so_far = subst (HaveMemory tables all) (append-nil old) (so_far [] (subst (λ ps. HaveMemory tables ps []) (sym none) tt))

-- the processes of a member that began, and of those after it, take as many slots
one_takes : (o : Option NewProcess) (ps : List Preparation) (m : Member) (v : View) (n : Member) (u w : View) → IsBegunWith o m v n u
    → free_count u ≡ free_count w + length (to_begin ps) → free_count v ≡ free_count w + length (process_and o (to_begin ps))
one_takes None ps m v n u w (is, same) later = ap free_count (sym same) ∙ later
one_takes (Some p) ps m v n u w (pid, began, is) later = let one = begins_take_one.0 p.begins v u pid began in omega (arith, one, later)

all_take : (ps : List Preparation) (v : View) (ms : List Member) (w : View) → AllBegan ps v ms w → free_count v ≡ free_count w + length (to_begin ps)
all_take [] v [] w began = ap free_count (sym began) ∙ (let e : free_count w ≡ free_count w + 0 = omega arith in e)
all_take [] v (m ∷ ms) w began = absurd began
all_take (p ∷ ps) v [] w began = absurd began
all_take (p ∷ ps) v (m ∷ ms) w (u, first, later) = one_takes p.process ps p.member v m u w first (all_take ps u ms w later)

-- There are slots for the first of the applications that are left, and room.
pub first_fits : (left rest : List NewApp) (n : NewApp) (free : ℕ) → left ≡ n ∷ rest → number_to_begin left ≤ free → AllByRecursion HasRoom left
    → (length (to_begin n.prepared.items) ≤ free) × HasRoom n
first_fits left rest n free split few room =
    let all = subst (AllByRecursion HasRoom) split room in
    let sum = sum_by-cons (λ (m : NewApp). length (to_begin m.prepared.items)) n rest in
    let whole = ap number_to_begin split in
    (omega (arith, few, whole, sum), all.0)

-- There are slots for the other applications that are left, and room, after the first of them began.
pub others_fit : (left rest : List NewApp) (n : NewApp) (v : View) (a : App) (u : View) → left ≡ n ∷ rest → AppBegan n v a u → number_to_begin left ≤ free_count v → AllByRecursion HasRoom left
    → (number_to_begin rest ≤ free_count u) × AllByRecursion HasRoom rest
others_fit left rest n v a u split began few room =
    let all = subst (AllByRecursion HasRoom) split room in
    let sum = sum_by-cons (λ (m : NewApp). length (to_begin m.prepared.items)) n rest in
    let whole = ap number_to_begin split in
    let taken = all_take n.prepared.items v a.members u began.began in
    (omega (arith, few, whole, sum, taken), all.1)

-- Whatever begins of those that are left completes what began so far.
abbrev pub Completes : List NewApp → View → List App → List NewApp → View → Type 0
Completes all v old left u = (as' : List App) (w : View) → AppsBegan left u as' w → AppsBegan all v (old ++ as') w

-- one more began
pub one_began : (all left rest : List NewApp) (v u x : View) (old new : List StartedApp) (n : NewApp) (a : StartedApp)
    → left ≡ n ∷ rest → AppBegan n u (app_of a) x → new ≡ old ++ a ∷ [] → Completes all v (map app_of old) left u → Completes all v (map app_of new) rest x
one_began all left rest v u x old new n a split begun more so_far as' w later =
    subst (λ l. AppsBegan all v l w)
    (sym (append_assoc (map app_of old) (app_of a ∷ []) as') ∙ ap (λ l. l ++ as') (sym (ap (map app_of) more ∙ map_push app_of old a)))
    (so_far (app_of a ∷ as') w (subst (λ ns. AppsBegan ns u (app_of a ∷ as') w) (sym split) (x, begun, later)))

-- all began where none is left
pub all_began : (all left : List NewApp) (v u : View) (old : List App) → length left ≡ 0 → Completes all v old left u → AppsBegan all v old u
all_began all [] v u old none so_far = subst (λ l. AppsBegan all v l u) (append-nil old) (so_far [] u refl)
all_began all (n ∷ ns) v u old none so_far = absurd (omega (arith, none))

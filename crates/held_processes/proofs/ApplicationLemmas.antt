-- The courses that the handler follows after the start and the stop of an application.
use Rattle.std.proofs.Common.{◌≡◌, ◌≢◌, ℕ, zero, suc, ◌+◌, ◌<◌, ◌≤◌, ◌==◌, Bool, true, false, ◌&&◌, if◌then◌else◌, true≢false, List, [], ◌∷◌, ◌++◌, length, reverse, take, Option, Some, None, Result, Ok, Err, slice_index_or, slice_set, refl, ap, sym, subst, ◌∙◌, arith, append-nil}
use Rattle.std.specs.Option.{option_map_or}
use Rattle.std.proofs.lemmas.Bool.Decides.{nat_tests}
use Rattle.std.proofs.lemmas.List.{set-get_or}
use native.Mathlib.Decide.{ℕ_discrete}
use mathlib.Core.List.{reverse_aux}
use mathlib.Core.Logic.{dite}
use Rattle.proc_history.specs.declared.beginning.Beginning.{Beginning}
use Rattle.proc_history.specs.declared.value.Value.{Value}
use Rattle.proc_history.specs.Events.{HistoryEntry, entry, own}
use Rattle.proc_history.specs.Events.Event.{begin, given_up}
use Rattle.proc_history.specs.Histories.{replay, replay_from, IsLegal}
use Rattle.proc_history.specs.Values.{nothing, after, next_round}
use Rattle.proc_history.proofs.Entries.{replay-append, legal_prefix}
use Rattle.proc_table.specs.declared.pid.Pid.{Pid}
use Rattle.proc_table.specs.declared.view.View.{View}
use Rattle.proc_table.specs.Agrees.{slots}
use Rattle.proc_table.specs.Free.{BeganLowest, free_count}
use Rattle.proc_table.specs.Holds.{Holding, Released}
use Rattle.proc_table.specs.Parts.{Part, part_of}
use Rattle.proc_table.specs.Views.{seen, is_out}
use Rattle.proc_table.specs.Waits.{HeldAtLast}
use Rattle.proc_table.proofs.CountLemmas.{begins_take_one}
use Rattle.proc_table.proofs.WaitLemmas.{held_and_released, since}
use Rattle.mod_table.specs.Tables.{Tables}
use Rattle.sup_tree.specs.declared.error.StartError.{StartError}
use Rattle.started_members.specs.declared.member.Member.{Member}
use Rattle.started_members.specs.declared.member.StartedProcess.{StartedProcess}
use Rattle.started_members.specs.Begins.{members_at, BeganInOrder, beginning_of}
use Rattle.sup_tree.specs.Starts.{IsWhy, StartsApp}
use Rattle.started_members.specs.Ends.{EndedAt, EndedInOrder, stands}
use Rattle.sup_tree.specs.Stops.{StopsApp}
use Rattle.sup_tree.specs.Tree.{App, app_pids, members_of}
use Rattle.started_members.specs.Members.{pids_of, process_and, process_in, processes_among}
use Rattle.sup_tree.specs.Walk.{Start, app_members, app_starts}
use Rattle.held_processes.specs.Applications.{StartsIn, all_begun, all_ended, all_stopped, begun_at, ended_at, held_ended, known, match_pid, pids_for, state_ended, round_in, scene_at, taken_at, with_stopped, with_stopped_app}
use Rattle.held_processes.specs.Course.{Course, Courses, Hold, add_alone, added, course_after, if_held, let_go, add}
use Rattle.held_processes.specs.Course.Hold.{not_held, until_point, until_resumed}
use Rattle.held_processes.specs.Course.Operation.{give_up}
use Rattle.held_processes.specs.Following.{AllFollow, Followed, HeldForm, HeldSlots, IsAt, IsFree, IsHeld}
use Rattle.held_processes.specs.Operations.{Values, give_up_at, values_seen}
use Rattle.held_processes.specs.Slots.{Steps}
use Rattle.held_processes.proofs.FollowLemmas.{at_slot, past_of, step_all}
use Rattle.held_processes.proofs.RoundLemmas.{AllLegal, free_is, known_free, lowest_is, others_behind}
use Rattle.held_processes.proofs.SlotLemmas.{adds_alone, gives_back}

-- a slot that the handler doesn't hold
pub record NotHeldAt (p : ℕ) (cs : Courses) (hs : HeldSlots) : Type 0 where
  pub place : slice_index_or hs p None ≡ None
  pub hold : (cs p).hold ≡ not_held
  pub pending : (cs p).pending ≡ []

-- A slot that isn't out is not held.
free_where_not_out : (first : View) (cs : Courses) (hs : HeldSlots) (v : View) (p : ℕ) → AllFollow first cs hs v → p < slots → is_out v p ≡ false → NotHeldAt p cs hs
free_where_not_out first cs hs v p f inside out = by (slice_index_or hs p None) refl (f.each p inside).at
  where
    by : (place : Option HeldForm) → slice_index_or hs p None ≡ place → IsAt p (cs p) (part_of v.parts p) place → NotHeldAt p cs hs
    by None is at = let free : IsFree (cs p) (part_of v.parts p) = at in record { place = is; hold = free.hold; pending = free.pending }
    by (Some h) is at = let held : IsHeld p (cs p) (part_of v.parts p) h = at in absurd (true≢false (sym held.out ∙ out))

-- A slot whose course says that it isn't held is not held.
pub free_where_not_held : (first : View) (cs : Courses) (hs : HeldSlots) (v : View) (p : ℕ) → AllFollow first cs hs v → p < slots → (cs p).hold ≡ not_held → NotHeldAt p cs hs
free_where_not_held first cs hs v p f inside hold = by (slice_index_or hs p None) refl (f.each p inside).at
  where
    by : (place : Option HeldForm) → slice_index_or hs p None ≡ place → IsAt p (cs p) (part_of v.parts p) place → NotHeldAt p cs hs
    by None is at = let free : IsFree (cs p) (part_of v.parts p) = at in record { place = is; hold = free.hold; pending = free.pending }
    by (Some h) is at = let held : IsHeld p (cs p) (part_of v.parts p) h = at in absurd (held.really hold)

not_out : (o : Bool) (n : Option ℕ) (r : ℕ) → (if o then None else n) ≡ Some r → o ≡ false
not_out true n r e = absurd (cc)
not_out false n r e = refl

-- a step at a slot that isn't held before and after it
step_free : (first : View) (cs ds : Courses) (hs : HeldSlots) (v w : View) (p : ℕ) → AllFollow first cs hs v → p < slots → slice_index_or hs p None ≡ None
    → Steps (past_of first cs p) p (ds p) v None w → ((q : ℕ) → q ≢ p → ds q ≡ cs q) → AllFollow first ds hs w
step_free first cs ds hs v w p f inside free s others =
    subst (λ (l : HeldSlots). AllFollow first ds l w) (ap (λ (o : Option HeldForm). slice_set hs p o) (sym free) ∙ set-get_or hs p None)
    (step_all first cs cs ds hs v w p None f inside s others)

-- what was seen stays legal after a hold and a release
pub legal_behind : (p : ℕ) (es : List HistoryEntry) (v : View) (h : Holding) (u w : View) → AllLegal v → HeldAtLast p v h u → Released p es u w → AllLegal w
legal_behind p es v h u w legal at r q = dite (ℕ_discrete q p)
    (λ is. subst (λ z. IsLegal (seen w z)) (sym is) r.legal)
    (λ ne. subst (λ (x : Part). IsLegal x.seen) (sym ((held_and_released p es v h u w at r).others q ne)) (legal q))

-- a process that begins

pub same_slot : (slot : ℕ) → (slot == slot) ≡ true
same_slot slot = grind (arith, nat_tests)

pub other_slot : (q slot : ℕ) → q ≢ slot → (q == slot) ≡ false
other_slot q slot ne = grind (arith, nat_tests)

pub is_slot : (q slot : ℕ) → (q == slot) ≡ true → q ≡ slot
is_slot q slot e = grind (arith, nat_tests)

pub began_follow : (first : View) (cs : Courses) (hs : HeldSlots) (v : View) (b : Beginning) (pid : Pid) (w : View) → AllFollow first cs hs v → BeganLowest b v (Ok pid) w
    → AllFollow first (begun_at pid b cs) hs w
began_follow first cs hs v b pid w f began =
    let p = pid.slot in
    let e = begin pid.round b in
    let free = free_where_not_out first cs hs v p f pid.inside (not_out (is_out v p) _ pid.round began.0.next) in
    let at = began.1 in
    let h : Holding = at.0 in
    let after_none : h.value.round < pid.round = let next = at.5 in omega (arith, next) in
    let here = at_slot first cs cs hs v p None f pid.inside refl (sym free.place) in
    let step = adds_alone (past_of first cs p) p v h at.1 w e here at.2 (λ k. k) (at.3, after_none) at.6 in
    step_free first cs (begun_at pid b cs) hs v w p f pid.inside free.place
    (subst (λ d. Steps (past_of first cs p) p d v None w) (sym (ap (λ (x : Bool). if x then add_alone e (cs p) else cs p) (same_slot p))) step)
    (λ q ne. ap (λ (x : Bool). if x then add_alone e (cs q) else cs q) (other_slot q p ne))

-- the round with which a process can begin, by what stood in a slot at first
round_of : Value → Course → Option ℕ
round_of x c = if_held c.hold None (next_round (replay_from x (added c.blocks ++ c.pending)))

neither_held : (k : Hold) → if_held {X = Option ℕ} k None None ≡ None
neither_held not_held = refl
neither_held until_point = refl
neither_held until_resumed = refl

-- none can where one began
begun_round : (x : Value) (c : Course) (round : ℕ) (b : Beginning) → c.pending ≡ [] → round_of x (add_alone (begin round b) c) ≡ None
unfolding round_of
begun_round x c round b none =
    let e = entry 0 (begin round b) in
    let whole : (added c.blocks ++ e ∷ []) ++ c.pending ≡ added c.blocks ++ e ∷ [] = ap (λ l. (added c.blocks ++ e ∷ []) ++ l) none ∙ append-nil _ in
    let value : replay_from x ((added c.blocks ++ e ∷ []) ++ c.pending) ≡ after (replay_from x (added c.blocks)) (begin round b) =
    ap (replay_from x) whole ∙ replay-append x (added c.blocks) (e ∷ []) in
    ap (λ (y : Value). if_held c.hold None (next_round y)) value ∙ neither_held c.hold

pub taken_is : (values : Values) (cs : Courses) (pid : Pid) (b : Beginning) → (cs pid.slot).pending ≡ [] → round_in values (begun_at pid b cs) ≡ taken_at pid.slot (round_in values cs)
unfolding round_of
taken_is values cs pid b none = λ j p. at p (p == pid.slot) refl j
  where
    at : (p : ℕ) (x : Bool) → (p == pid.slot) ≡ x → round_of (values p) (if x then add_alone (begin pid.round b) (cs p) else cs p) ≡ (if x then None else round_of (values p) (cs p))
    at p true is = begun_round (values p) (cs p) pid.round b (ap (λ q. (cs q).pending) (is_slot p pid.slot is) ∙ none)
    at p false is = refl

-- All that an application starts began where its courses say.
pub record AllBegun (first : View) (cs : Courses) (hs : HeldSlots) (app : List ℕ) (ss : List Start) (pids : List Pid) (ps : List StartedProcess) (w : View) : Type 0 where
  pub follow : AllFollow first (all_begun app ss pids cs) hs w
  pub places : pids_of ps ≡ pids

pub began_all : (first : View) (cs : Courses) (hs : HeldSlots) (app : List ℕ) (ss : List Start) (v : View) (ps : List StartedProcess) (w : View) → AllFollow first cs hs v → AllLegal v
    → BeganInOrder app ss v ps w → AllBegun first cs hs app ss (pids_for (length ss) (round_in (values_seen first) cs)) ps w
began_all first cs hs app [] v [] w f legal is = record { follow = subst (AllFollow first cs hs) (sym is) f; places = refl }
began_all first cs hs app [] v (p ∷ ps) w f legal is = absurd is
began_all first cs hs app (s ∷ ss) v [] w f legal is = absurd is
began_all first cs hs app (s ∷ ss) v (p ∷ ps) w f legal (u, began, is, later) =
    let b = beginning_of app s in
    let rounds = round_in (values_seen first) cs in
    let ds = begun_at p.pid b cs in
    let free = free_where_not_out first cs hs v p.pid.slot f p.pid.inside (not_out (is_out v p.pid.slot) _ p.pid.round began.0.next) in
    let low = lowest_is first cs hs v p.pid f legal began.0 in
    let legal_now = legal_behind p.pid.slot _ v began.1.0 began.1.1 u legal began.1.2 began.1.6 in
    let rest = began_all first ds hs app ss u ps w (began_follow first cs hs v b p.pid u f began) legal_now later in
    let pids : pids_for (length (s ∷ ss)) rounds ≡ p.pid ∷ pids_for (length ss) (round_in (values_seen first) ds) =
    ap (λ (o : Option Pid). match_pid o (λ pid. pid ∷ pids_for (length ss) (taken_at pid.slot rounds))) low
    ∙ ap (λ (r : ℕ → Option ℕ). p.pid ∷ pids_for (length ss) r) (sym (taken_is (values_seen first) cs p.pid b free.pending)) in
    subst (λ l. AllBegun first cs hs app (s ∷ ss) l (p ∷ ps) w) (sym pids) (record { follow = rest.follow; places = ap (λ l. p.pid ∷ l) rest.places })

-- Where processes began, there were free slots for them.
pub began_in_room : (app : List ℕ) (ss : List Start) (v : View) (ps : List StartedProcess) (w : View) → BeganInOrder app ss v ps w → length ss ≤ free_count v
began_in_room app [] v [] w is = omega arith
began_in_room app [] v (p ∷ ps) w is = absurd is
began_in_room app (s ∷ ss) v [] w is = absurd is
began_in_room app (s ∷ ss) v (p ∷ ps) w (u, began, is, later) =
    let rest = began_in_room app ss u ps w later in
    let one = begins_take_one.0 (beginning_of app s) v u p.pid began in omega (arith, rest, one)

-- the start of an application

pub starts_in : {X : Type 0} (followed : Followed) (hs : HeldSlots) (v : View) (apps : List App) (name : List ℕ) (top : Option (List ℕ)) (tables : Tables) (r : Result X StartError) (apps' : List App) (w : View)
    → AllFollow followed.first followed.courses hs v → AllLegal v → StartsApp name top tables apps v r apps' w
    → StartsIn followed.first name top tables (scene_at followed apps) r apps' hs w
starts_in followed hs v apps name top tables (Ok x) apps' w f legal s =
    let first = followed.first in
    let cs = followed.courses in
    let starts = app_starts tables top in
    let began = began_all first cs hs name starts v s.processes w f legal s.began in
    record {
      new = s.new;
      sound = s.sound;
      room = subst (λ n. length starts ≤ n) (free_is first cs hs v f legal) (began_in_room name starts v s.processes w s.began);
      tree = s.tree ∙ (λ j. apps ++ record { name = name; members = members_at (app_members tables top) (began.places j) } ∷ []);
      follow = began.follow;
    }
starts_in followed hs v apps name top tables (Err e) apps' w f legal s = (
  subst (IsWhy e name top tables apps) (free_is followed.first followed.courses hs v f legal) s.0,
  s.1,
  subst (AllFollow followed.first followed.courses hs) (sym s.2) f,
)

-- a process that ends

-- whether it stands is known
pub stands_known : (first : View) (cs : Courses) (hs : HeldSlots) (v : View) (pid : Pid) (h : Holding) (u : View) → AllFollow first cs hs v → (cs pid.slot).pending ≡ [] → HeldAtLast pid.slot v h u
    → stands pid h.value ≡ stands pid (known (values_seen first) cs pid.slot)
stands_known first cs hs v pid h u f none at =
    let p = pid.slot in
    let s = since p v h u at in
    let legal : IsLegal (seen v p ++ s.between) = subst IsLegal s.seen_is s.legal in
    let legal_before : IsLegal (seen v p) = legal_prefix nothing (seen v p) (seen v p ++ s.between) (s.between, refl) legal in
    let by_others = subst (λ n. own n s.between ≡ []) f.handler s.strangers in
    let first_alike = known_free first cs hs v p f legal_before pid.inside none in
    let then_alike = others_behind nothing (seen v p) s.between by_others legal in
    let value : h.value ≡ replay (seen v p ++ s.between) = s.value ∙ ap replay s.seen_is in
    ap (stands pid) value ∙ (λ j. ((then_alike.round ∙ first_alike.round) j == pid.round) && (then_alike.stands ∙ first_alike.stands) j)

-- the course of a slot after it
abbrev ended_if : Bool → Course → Course
ended_if b c = if b then add_alone given_up c else c

ends_if : (first : View) (cs : Courses) (hs : HeldSlots) (v : View) (p : ℕ) (h : Holding) (u w : View) (b : Bool) → AllFollow first cs hs v → p < slots → slice_index_or hs p None ≡ None
    → HeldAtLast p v h u → Released p (if b then entry 0 given_up ∷ [] else []) u w → Steps (past_of first cs p) p (ended_if b (cs p)) v None w
ends_if first cs hs v p h u w true f inside free at r = adds_alone (past_of first cs p) p v h u w given_up (at_slot first cs cs hs v p None f inside refl (sym free)) at (λ k. k) tt r
ends_if first cs hs v p h u w false f inside free at r = gives_back (past_of first cs p) p v h u w (at_slot first cs cs hs v p None f inside refl (sym free)) at r

pub ended_follow : (first : View) (cs : Courses) (hs : HeldSlots) (v : View) (pid : Pid) (w : View) → AllFollow first cs hs v → (cs pid.slot).hold ≡ not_held → EndedAt pid v w
    → AllFollow first (ended_at (values_seen first) pid cs) hs w
ended_follow first cs hs v pid w f hold (h, u, at, r) =
    let p = pid.slot in
    let free = free_where_not_held first cs hs v p f pid.inside hold in
    let step = ends_if first cs hs v p h u w (stands pid h.value) f pid.inside free.place at r in
    let known_now = stands_known first cs hs v pid h u f free.pending at in
    let is : ended_if (stands pid h.value) (cs p) ≡ ended_at (values_seen first) pid cs p =
    ap (λ (b : Bool). ended_if b (cs p)) known_now
    ∙ sym (ap (λ (b : Bool). if b then ended_if (stands pid (known (values_seen first) cs p)) (cs p) else cs p) (same_slot p)) in
    step_free first cs (ended_at (values_seen first) pid cs) hs v w p f pid.inside free.place (subst (λ d. Steps (past_of first cs p) p d v None w) is step)
    (λ q ne. ap (λ (b : Bool). if b then ended_if (stands pid (known (values_seen first) cs q)) (cs q) else cs q) (other_slot q p ne))

-- no slot of these is held
pub AreFree : Courses → List Pid → Type 0
AreFree cs [] = Unit {0}
AreFree cs (pid ∷ pids) = ((cs pid.slot).hold ≡ not_held) × AreFree cs pids

-- an end holds nothing
ended_hold : (values : Values) (pid : Pid) (cs : Courses) (p : ℕ) → (ended_at values pid cs p).hold ≡ (cs p).hold
ended_hold values pid cs p = by (p == pid.slot) (stands pid (known values cs p))
  where
    by : (a b : Bool) → (if a then ended_if b (cs p) else cs p).hold ≡ (cs p).hold
    by true true = refl
    by true false = refl
    by false b = refl

free_behind : (values : Values) (pid : Pid) (cs : Courses) (pids : List Pid) → AreFree cs pids → AreFree (ended_at values pid cs) pids
unfolding AreFree
free_behind values pid cs [] free = tt
free_behind values pid cs (q ∷ qs) free = (ended_hold values pid cs q.slot ∙ free.0, free_behind values pid cs qs free.1)

ended_all : (first : View) (cs : Courses) (hs : HeldSlots) (pids : List Pid) (v w : View) → AllFollow first cs hs v → AreFree cs pids → EndedInOrder pids v w
    → AllFollow first (all_ended (values_seen first) pids cs) hs w
unfolding AreFree
ended_all first cs hs [] v w f free is = subst (AllFollow first cs hs) (sym is) f
ended_all first cs hs (pid ∷ pids) v w f free (u, ended, later) =
    ended_all first (ended_at (values_seen first) pid cs) hs pids u w (ended_follow first cs hs v pid u f free.0 ended) (free_behind (values_seen first) pid cs pids free.1) later

-- those that are held are given up first

given_up_free : (k : Hold) (c : Course) → c.hold ≡ k → (if_held k (course_after give_up c) c).hold ≡ not_held
given_up_free not_held c is = is
given_up_free until_point c is = ap (λ (j : Hold). (if_held j (let_go (add given_up c)) (add_alone given_up c)).hold) is
given_up_free until_resumed c is = ap (λ (j : Hold). (if_held j (let_go (add given_up c)) (add_alone given_up c)).hold) is

pub free_there : (slot : ℕ) (cs : Courses) → (give_up_at slot cs slot).hold ≡ not_held
free_there slot cs =
    ap (λ (b : Bool). (if b then if_held (cs slot).hold (course_after give_up (cs slot)) (cs slot) else cs slot).hold) (same_slot slot)
    ∙ given_up_free (cs slot).hold (cs slot) refl

stays_free : (slot : ℕ) (cs : Courses) (p : ℕ) → (cs p).hold ≡ not_held → (give_up_at slot cs p).hold ≡ not_held
stays_free slot cs p free = by (p == slot)
  where
    by : (b : Bool) → (if b then if_held (cs p).hold (course_after give_up (cs p)) (cs p) else cs p).hold ≡ not_held
    by true = given_up_free (cs p).hold (cs p) refl
    by false = free

all_stay_free : (pids : List Pid) (cs : Courses) (p : ℕ) → (cs p).hold ≡ not_held → (held_ended pids cs p).hold ≡ not_held
all_stay_free [] cs p free = free
all_stay_free (pid ∷ pids) cs p free = all_stay_free pids (give_up_at pid.slot cs) p (stays_free pid.slot cs p free)

all_free : (pids : List Pid) (cs : Courses) → AreFree (held_ended pids cs) pids
unfolding AreFree
all_free [] cs = tt
all_free (pid ∷ pids) cs = (all_stay_free pids (give_up_at pid.slot cs) pid.slot (free_there pid.slot cs), all_free pids (give_up_at pid.slot cs))

free_reversed_onto : (cs : Courses) (xs ys : List Pid) → AreFree cs xs → AreFree cs ys → AreFree cs (reverse_aux xs ys)
unfolding AreFree
free_reversed_onto cs [] ys a b = b
free_reversed_onto cs (x ∷ xs) ys a b = free_reversed_onto cs xs (x ∷ ys) a.1 (a.0, b)

free_reversed : (cs : Courses) (pids : List Pid) → AreFree cs pids → AreFree cs (reverse pids)
unfolding AreFree
free_reversed cs pids free = free_reversed_onto cs pids [] free tt

-- those that were held are given up, then all others, the last first
pub all_stopped_follow : (first : View) (cs : Courses) (hs : HeldSlots) (pids : List Pid) (v w : View) → AllFollow first (held_ended pids cs) hs v → EndedInOrder (reverse pids) v w
    → AllFollow first (all_stopped (values_seen first) pids cs) hs w
all_stopped_follow first cs hs pids v w f ended = ended_all first (held_ended pids cs) hs (reverse pids) v w f (free_reversed (held_ended pids cs) pids (all_free pids cs)) ended

-- the stop of an application
pub stops_in : {X E : Type 0} (followed : Followed) (hs : HeldSlots) (v : View) (apps : List App) (name : List ℕ) (r : Result X E) (apps' : List App) (w : View)
    → AllFollow followed.first (held_ended (pids_of (processes_among (members_of name apps))) followed.courses) hs v → StopsApp name apps v r apps' w
    → (apps' ≡ (with_stopped name (scene_at followed apps)).apps) × AllFollow followed.first (with_stopped name (scene_at followed apps)).courses hs w
stops_in followed hs v apps name (Ok x) apps' w f s =
    let first = followed.first in
    let members : members_of name apps ≡ s.app.members = ap (λ (o : Option App). option_map_or (λ (a : App). a.members) o []) s.there in
    let now = subst (λ (ms : List Member). AllFollow first (held_ended (pids_of (processes_among ms)) followed.courses) hs v) members f in
    let all = all_stopped_follow first followed.courses hs (app_pids s.app) v w now s.ended in
    subst (λ (o : Option App). (apps' ≡ (with_stopped_app name o (scene_at followed apps)).apps) × AllFollow first (with_stopped_app name o (scene_at followed apps)).courses hs w) (sym s.there)
    (s.tree, all)
stops_in followed hs v apps name (Err e) apps' w f s =
    let first = followed.first in
    let members : members_of name apps ≡ [] = ap (λ (o : Option App). option_map_or (λ (a : App). a.members) o []) s.0 in
    let now = subst (λ (ms : List Member). AllFollow first (held_ended (pids_of (processes_among ms)) followed.courses) hs v) members f in
    subst (λ (o : Option App). (apps' ≡ (with_stopped_app name o (scene_at followed apps)).apps) × AllFollow first (with_stopped_app name o (scene_at followed apps)).courses hs w) (sym s.0)
    (s.1, subst (AllFollow first followed.courses hs) (sym s.2) now)

-- the process of one member, in front of those of others
ended_behind : (first : View) (hs : HeldSlots) (v : View) (o : Option StartedProcess) (ps : List StartedProcess) (cs : Courses)
    → AllFollow first (held_ended (pids_of ps) (state_ended o cs)) hs v → AllFollow first (held_ended (pids_of (process_and o ps)) cs) hs v
ended_behind first hs v None ps cs f = f
ended_behind first hs v (Some p) ps cs f = f

behind_ended : (o : Option StartedProcess) (ps : List StartedProcess) (cs : Courses) → held_ended (pids_of (process_and o ps)) cs ≡ held_ended (pids_of ps) (state_ended o cs)
behind_ended None ps cs = refl
behind_ended (Some p) ps cs = refl

-- those that were given up so far, and one more
next_given_up : (first : View) (hs : HeldSlots) (v : View) (ms : List Member) (n : ℕ) (cs : Courses) → n < length ms
    → ((d : Member) → AllFollow first (state_ended (process_in (slice_index_or ms n d)) (held_ended (pids_of (processes_among (take n ms))) cs)) hs v)
    → AllFollow first (held_ended (pids_of (processes_among (take (suc n) ms))) cs) hs v
next_given_up first hs v [] n cs inside f = absurd (omega (arith, inside))
next_given_up first hs v (m ∷ ms) zero cs inside f = ended_behind first hs v (process_in m) [] cs (f m)
next_given_up first hs v (m ∷ ms) (suc n) cs inside f =
    ended_behind first hs v (process_in m) (processes_among (take (suc n) ms)) cs
    (next_given_up first hs v ms n (state_ended (process_in m) cs) (omega (arith, inside))
    (λ d. subst (λ ds. AllFollow first (state_ended (process_in (slice_index_or ms n d)) ds) hs v) (behind_ended (process_in m) (processes_among (take n ms)) cs) (f d)))

pub one_more_given_up : (first : View) (hs : HeldSlots) (v : View) (ms : List Member) (n : ℕ) (cs : Courses) → n < length ms
    → ((d : Member) → AllFollow first (state_ended (process_in (slice_index_or ms n d)) (held_ended (pids_of (processes_among (take n ms))) cs)) hs v)
    → AllFollow first (held_ended (pids_of (processes_among (take (n + 1) ms))) cs) hs v
one_more_given_up first hs v ms n cs inside f =
    subst (λ m. AllFollow first (held_ended (pids_of (processes_among (take m ms))) cs) hs v) (let is : suc n ≡ n + 1 = omega arith in is) (next_given_up first hs v ms n cs inside f)

-- The handler's own entries report with which round a process can begin in each slot, whatever calls of others came meanwhile.
use Rattle.std.proofs.Common.{◌≡◌, ℕ, zero, suc, ◌+◌, ◌<◌, ◌≤◌, Bool, if◌then◌else◌, List, [], ◌∷◌, ◌++◌, Option, Some, None, is_some, option_map, slice_index_or, refl, ap, sym, subst, subst₂, ◌∙◌, arith, append_assoc}
use Rattle.std.specs.Option.{option_or}
use native.Mathlib.Bridge.{le_prop}
use native.Mathlib.Decide.{ℕ_discrete}
use mathlib.Core.Logic.{dite}
use Rattle.proc_history.specs.declared.value.Value.{Value}
use Rattle.proc_history.specs.declared.value.Now.{Now}
use Rattle.proc_history.specs.Events.{Event, HistoryEntry, own}
use Rattle.proc_history.specs.Events.Event.{begin, call, loaded, changed, stopped, started, given_up}
use Rattle.proc_history.specs.Histories.{replay, replay_from, LegalFrom, IsLegal}
use Rattle.proc_history.specs.Values.{nothing, after, next_round}
use Rattle.proc_history.proofs.Entries.{replay-append, legal_prefix}
use Rattle.proc_history.proofs.StandLemmas.{StandAlike, others_leave, next_alike}
use Rattle.proc_table.specs.declared.pid.Pid.{Pid}
use Rattle.proc_table.specs.declared.view.View.{View}
use Rattle.proc_table.specs.Agrees.{slots}
use Rattle.proc_table.specs.Free.{LowestFree, free_below, free_count, next_in}
use Rattle.proc_table.specs.Parts.{part_of}
use Rattle.proc_table.specs.Views.{seen}
use Rattle.held_processes.specs.Applications.{known, lowest, lowest_below, pid_at, room_in, round_in, rounds_below}
use Rattle.held_processes.specs.Course.{Courses, added}
use Rattle.held_processes.specs.Following.{AllFollow, HeldForm, HeldSlots, IsAt, IsFree, IsHeld, Stand}
use Rattle.held_processes.specs.Operations.{now_in, values_seen}
use Rattle.held_processes.proofs.SlotLemmas.{free_case, held_case}

-- the handler has seen legal histories
abbrev pub AllLegal : View → Type 0
AllLegal v = (p : ℕ) → IsLegal (seen v p)

then_alike : (x y z : Value) → StandAlike x y → StandAlike y z → StandAlike x z
then_alike x y z a b = record { stands = b.stands ∙ a.stands; round = b.round ∙ a.round }

stands_with : (o p : Option Now) (f g : Now → Now) → is_some p ≡ is_some o → is_some (option_map g p) ≡ is_some (option_map f o)
stands_with None None f g e = refl
stands_with (Some n) (Some m) f g e = refl
stands_with o p f g e = absurd (cc)

-- an event makes alike values of alike values
after_alike : (x y : Value) (e : Event) → StandAlike x y → StandAlike (after x e) (after y e)
after_alike x y (begin round b) a = record { stands = refl; round = refl }
after_alike x y given_up a = record { stands = refl; round = a.round }
after_alike x y (call input o) a = record { stands = stands_with x.now y.now _ _ a.stands; round = a.round }
after_alike x y (loaded t) a = record { stands = stands_with x.now y.now _ _ a.stands; round = a.round }
after_alike x y (changed old extra) a = record { stands = stands_with x.now y.now _ _ a.stands; round = a.round }
after_alike x y stopped a = record { stands = stands_with x.now y.now _ _ a.stands; round = a.round }
after_alike x y started a = record { stands = stands_with x.now y.now _ _ a.stands; round = a.round }

replay_alike : (x y : Value) (es : List HistoryEntry) → StandAlike x y → StandAlike (replay_from x es) (replay_from y es)
replay_alike x y [] a = a
replay_alike x y (e ∷ es) a = replay_alike (after x e.event) (after y e.event) es (after_alike x y e.event a)

-- entries of others after a history leave what stands there
pub others_behind : (v : Value) (g es : List HistoryEntry) → own 0 es ≡ [] → LegalFrom v (g ++ es) → StandAlike (replay_from v g) (replay_from v (g ++ es))
others_behind v [] es none legal = others_leave v es none legal
others_behind v (e ∷ g) es none legal = others_behind (after v e.event) g es none legal.2

-- so do those between and after the handler's blocks
stand_alike : (lent : List ℕ) (first : List HistoryEntry) (bs : List (List HistoryEntry)) (h : List HistoryEntry) → Stand lent first bs h → IsLegal h
    → StandAlike (replay_from (replay first) (added bs)) (replay h)
stand_alike lent first [] h s legal =
    subst (λ k. StandAlike (replay first) (replay k)) (sym s.2) (others_behind nothing first s.0 s.1.others (subst IsLegal s.2 legal))
stand_alike lent first (b ∷ bs) h s legal =
    let before = s.0 in
    let between = s.1 in
    let whole : IsLegal ((before ++ b) ++ between) = subst IsLegal s.4 legal in
    let legal_before : IsLegal before = legal_prefix nothing before ((before ++ b) ++ between) (b ++ between, sym (append_assoc before b between)) whole in
    let blocks = replay_alike _ _ b (stand_alike lent first bs before s.2 legal_before) in
    let here : StandAlike (replay_from (replay first) (added bs ++ b)) (replay (before ++ b)) =
    subst₂ (λ (x y : Value). StandAlike x y) (sym (replay-append (replay first) (added bs) b)) (sym (replay-append nothing before b)) blocks in
    let behind = others_behind nothing (before ++ b) between s.3.others whole in
    subst (λ k. StandAlike (replay_from (replay first) (added bs ++ b)) (replay k)) (sym s.4) (then_alike _ _ _ here behind)

-- what is known of a slot, and what the handler has seen of it with what is pending
pub known_alike : (first : View) (cs : Courses) (hs : HeldSlots) (v : View) (p : ℕ) → AllFollow first cs hs v → IsLegal (seen v p) → p < slots
    → StandAlike (known (values_seen first) cs p) (now_in (values_seen v) cs p)
known_alike first cs hs v p f legal inside =
    subst (λ (x : Value). StandAlike x (now_in (values_seen v) cs p)) (sym (replay-append (replay (seen first p)) (added (cs p).blocks) (cs p).pending))
    (replay_alike _ _ (cs p).pending (stand_alike first.lent (seen first p) (cs p).blocks (seen v p) (f.each p inside).stand legal))

-- of a slot that isn't held nothing is pending
pub known_free : (first : View) (cs : Courses) (hs : HeldSlots) (v : View) (p : ℕ) → AllFollow first cs hs v → IsLegal (seen v p) → p < slots → (cs p).pending ≡ []
    → StandAlike (known (values_seen first) cs p) (replay (seen v p))
known_free first cs hs v p f legal inside none =
    subst (λ es. StandAlike (known (values_seen first) cs p) (replay_from (replay (seen v p)) es)) none (known_alike first cs hs v p f legal inside)

-- with which round a process can begin in a slot
pub next_is : (first : View) (cs : Courses) (hs : HeldSlots) (v : View) (p : ℕ) → AllFollow first cs hs v → IsLegal (seen v p) → p < slots
    → next_in v p ≡ round_in (values_seen first) cs p
next_is first cs hs v p f legal inside = by (slice_index_or hs p None) (f.each p inside).at
  where
    by : (place : Option HeldForm) → IsAt p (cs p) (part_of v.parts p) place → next_in v p ≡ round_in (values_seen first) cs p
    by None at =
        let free : IsFree (cs p) (part_of v.parts p) = at in
        ap (λ (b : Bool). if b then None else next_round (replay (seen v p))) free.out
        ∙ (next_alike _ _ (known_free first cs hs v p f legal inside free.pending)
        ∙ sym (free_case (cs p).hold None (next_round (known (values_seen first) cs p)) free.hold))
    by (Some h) at =
        let held : IsHeld p (cs p) (part_of v.parts p) h = at in
        ap (λ (b : Bool). if b then None else next_round (replay (seen v p))) held.out
        ∙ sym (held_case (cs p).hold None (next_round (known (values_seen first) cs p)) held.really)

-- in how many slots a process can begin

count_alike : (v : View) (rounds : ℕ → Option ℕ) (n : ℕ) → ((p : ℕ) → p < n → next_in v p ≡ rounds p) → free_below v n ≡ rounds_below rounds n
count_alike v rounds zero same = refl
count_alike v rounds (suc n) same =
    let rest = count_alike v rounds n (λ p below. same p (omega (arith, below))) in
    let here : next_in v n ≡ rounds n = same n (omega arith) in
    λ j. rest j + (if is_some (here j) then 1 else 0)

pub free_is : (first : View) (cs : Courses) (hs : HeldSlots) (v : View) → AllFollow first cs hs v → AllLegal v → free_count v ≡ room_in (values_seen first) cs
free_is first cs hs v f legal = count_alike v (round_in (values_seen first) cs) slots (λ p inside. next_is first cs hs v p f (legal p) inside)

-- the lowest slot in which one can

pid : (slot round : ℕ) → slot < slots → Pid
pid slot round inside = record { slot = slot; round = round; inside = inside }

same_pid : (slot : ℕ) (inside : slot < slots) (there : Pid) → slot ≡ there.slot → pid slot there.round inside ≡ there
unfolding pid
same_pid slot inside there is =
    subst (λ n. (within : n < slots) → pid n there.round within ≡ there) (sym is) (λ within i. record { slot = there.slot; round = there.round; inside = le_prop within there.inside i }) inside

or_none : (a b : Option Pid) → a ≡ None → b ≡ None → option_or a b ≡ None
or_none a b neither nor = ap (λ (o : Option Pid). option_or o b) neither ∙ nor

or_first : (a b : Option Pid) (pid : Pid) → a ≡ Some pid → option_or a b ≡ Some pid
or_first a b pid is = ap (λ (o : Option Pid). option_or o b) is

or_second : (a b : Option Pid) (pid : Pid) → a ≡ None → b ≡ Some pid → option_or a b ≡ Some pid
or_second a b pid none is = ap (λ (o : Option Pid). option_or o b) none ∙ is

none_lower : (rounds : ℕ → Option ℕ) (p : ℕ) → ((q : ℕ) → q < p → rounds q ≡ None) → (n : ℕ) (few : n ≤ slots) → n ≤ p → lowest_below rounds n few ≡ None
none_lower rounds p none zero few within = refl
none_lower rounds p none (suc n) few within =
    or_none _ _ (none_lower rounds p none n _ (omega (arith, within))) (ap (pid_at n _) (none n (omega (arith, within))))

found_lowest : (rounds : ℕ → Option ℕ) (low : Pid) → rounds low.slot ≡ Some low.round → ((q : ℕ) → q < low.slot → rounds q ≡ None) → (n : ℕ) (few : n ≤ slots) → low.slot < n
    → lowest_below rounds n few ≡ Some low
unfolding pid
found_lowest rounds low here lower zero few within = absurd (omega (arith, within))
found_lowest rounds low here lower (suc n) few within = dite (ℕ_discrete n low.slot)
    (λ e. or_second _ _ low (none_lower rounds low.slot lower n _ (omega (arith, e)))
    (ap (pid_at n _) (ap rounds e ∙ here) ∙ ap (λ (x : Pid). Some x) (same_pid n _ low e)))
    (λ ne. or_first _ _ low (found_lowest rounds low here lower n _ (omega (arith, within, ne))))

pub lowest_is : (first : View) (cs : Courses) (hs : HeldSlots) (v : View) (low : Pid) → AllFollow first cs hs v → AllLegal v → LowestFree v low
    → lowest (round_in (values_seen first) cs) ≡ Some low
lowest_is first cs hs v low f legal l =
    found_lowest (round_in (values_seen first) cs) low (sym (next_is first cs hs v low.slot f (legal low.slot) low.inside) ∙ l.next)
    (λ q below. sym (next_is first cs hs v q f (legal q) (let inside = low.inside in omega (arith, below, inside))) ∙ l.lower q below) slots _ low.inside

-- A step at one slot leaves the course that the handler follows there.
use Rattle.std.proofs.Common.{◌≡◌, ℕ, Bool, true, List, [], ◌∷◌, ◌++◌, Option, Some, None, refl, ap, sym, subst, subst₂, ◌∙◌, append-nil, append_assoc}
use native.Mathlib.Decide.{ℕ_discrete}
use mathlib.Core.List.{IsPrefix}
use mathlib.Core.Logic.{dite}
use Rattle.proc_history.specs.declared.value.Value.{Value}
use Rattle.worker_table.specs.Table.{WorkerTable}
use Rattle.proc_history.specs.Events.Event.{given_up, loaded}
use Rattle.proc_history.specs.Events.{Event, HistoryEntry, ByHandler, IsCall, entry, own}
use Rattle.proc_history.specs.Histories.{replay, replay_from, IsLegal}
use Rattle.proc_history.specs.Values.{after, MayCome}
use Rattle.proc_history.proofs.Beginnings.{event_adds}
use Rattle.proc_history.proofs.Prefixes.{prefix_self, prefix_trans}
use Rattle.proc_table.specs.declared.view.View.{View}
use Rattle.proc_table.specs.Calls.{Elsewhere}
use Rattle.proc_table.specs.Holds.{Holding, Released}
use Rattle.proc_table.specs.Parts.{Part}
use Rattle.proc_table.specs.Views.{seen, is_out}
use Rattle.proc_table.specs.Waits.{HeldAtLast, HeldSince}
use Rattle.proc_table.proofs.WaitLemmas.{since, elsewhere_left}
use Rattle.held_processes.specs.Course.{Hold, Course, add, add_alone, added, if_held, let_go, load_free}
use Rattle.held_processes.specs.Course.Hold.{not_held, until_point, until_resumed}
use Rattle.held_processes.specs.Following.{AreLonger, AreStrangers, Stand, HeldForm, IsHeld, IsFree}
use Rattle.held_processes.specs.Slots.{SlotPast, IsFollowed, Steps, dropped, taken, value_with}
use Rattle.held_processes.proofs.StandLemmas.{stand_more, stand_block}
use Rattle.held_processes.proofs.TakenLemmas.{taken_at_last, taken_found}

-- nothing happened
pub stays : (p : ℕ) (v : View) → Elsewhere p v v
stays p v = record { number = refl; count = refl; lent = refl; others = λ q ne. refl }

pub then_elsewhere : (p : ℕ) (v u w : View) → Elsewhere p v u → Elsewhere p u w → Elsewhere p v w
then_elsewhere p v u w a b = record {
  number = b.number ∙ a.number;
  count = b.count ∙ a.count;
  lent = b.lent ∙ a.lent;
  others = λ q ne. b.others q ne ∙ a.others q ne;
}

-- entries of others that came while a slot was waited for
came : (past : SlotPast) (p : ℕ) (v : View) (h : Holding) (u : View) → v.number ≡ 0 → v.lent ≡ past.lent → (s : HeldSince p v h u) → AreStrangers past.lent s.between
came past p v h u handler lent s = record {
  others = subst (λ n. own n s.between ≡ []) handler s.strangers;
  alone = λ none. s.alone (lent ∙ none);
}

-- a process is taken
pub takes : (past : SlotPast) (p : ℕ) (k : Hold) (v : View) (h : Holding) (u : View) (saved : Value) → ((k ≡ not_held) → ⊥) → IsFollowed past p past.course v None → HeldAtLast p v h u
    → saved ≡ h.value → Steps past p (taken k past.course) v (Some (record { held = h; saved = saved; hold = k })) u
takes past p k v h u saved really f at same =
    let s = since p v h u at in
    let c = past.course in
    let free : IsFree c _ = f.follows.at in
    let nothing_more : seen u p ≡ seen u p ++ c.pending = sym (ap (λ l. seen u p ++ l) free.pending ∙ append-nil (seen u p)) in
    record {
      follows = record {
        mine = s.mine_is ∙ f.follows.mine;
        stand = subst (Stand past.lent past.first.seen c.blocks) (sym s.seen_is)
            (stand_more past.lent past.first.seen c.blocks (seen v p) s.between f.follows.stand (came past p v h u f.handler f.lent s));
        at = record {
          slot = s.slot;
          hold = refl;
          really = really;
          out = s.out;
          was_legal = s.legal;
          by = subst ByHandler (sym free.pending) tt;
          legal = subst IsLegal nothing_more s.legal;
          value = s.value ∙ ap replay nothing_more;
          saved = same ∙ s.value;
        };
      };
      elsewhere = s.elsewhere;
    }

-- a process is let go
pub lets_go : (past : SlotPast) (p : ℕ) (c : Course) (v w : View) (h : HeldForm) → IsFollowed past p c v (Some h) → Released p c.pending v w → Steps past p (let_go c) v None w
lets_go past p c v w h f r = record {
  follows = record {
    mine = r.mine_is ∙ (ap (λ l. l ++ c.pending) f.follows.mine ∙ append_assoc past.first.mine (added c.blocks) c.pending);
    stand = subst (Stand past.lent past.first.seen (c.pending ∷ c.blocks)) (sym r.seen_is) (stand_block past.lent past.first.seen c.blocks (seen v p) c.pending f.follows.stand);
    at = record { hold = refl; pending = refl; out = r.out };
  };
  elsewhere = elsewhere_left p c.pending v w r;
}

-- what the handler had seen stays in front where nothing happens, and through two steps
pub longer_still : (v : View) → AreLonger v v
longer_still v = record { histories = λ p. prefix_self (seen v p); takes = prefix_self v.found }

pub longer_both : (v u w : View) → AreLonger v u → AreLonger u w → AreLonger v w
longer_both v u w a b = record {
  histories = λ p. prefix_trans (seen v p) (seen u p) (seen w p) (a.histories p) (b.histories p);
  takes = prefix_trans v.found u.found w.found a.takes b.takes;
}

-- A view that has seen the same, and has taken no slot since, is longer.
pub longer_same : (v w : View) → ((p : ℕ) → seen w p ≡ seen v p) → w.found ≡ v.found → AreLonger v w
longer_same v w same found = record {
  histories = λ p. subst (IsPrefix (seen v p)) (sym (same p)) (prefix_self (seen v p));
  takes = subst (IsPrefix v.found) (sym found) (prefix_self v.found);
}

-- A view is longer where entries came in one slot alone.
longer_there : (p : ℕ) (es : List HistoryEntry) (v w : View) → seen w p ≡ seen v p ++ es → Elsewhere p v w → IsPrefix v.found w.found → AreLonger v w
longer_there p es v w here elsewhere takes = record {
  histories = λ q. dite (ℕ_discrete q p)
      (λ is. subst (λ z. IsPrefix (seen v z) (seen w z)) (sym is) (es, sym here))
      (λ ne. ([], append-nil (seen v q) ∙ sym (ap (λ (x : Part). x.seen) (elsewhere.others q ne))));
  takes = takes;
}

-- A view is longer where a slot was taken.
pub taken_longer : (p : ℕ) (v : View) (h : Holding) (u : View) → HeldAtLast p v h u → AreLonger v u
taken_longer p v h u at = let s = since p v h u at in longer_there p s.between v u s.seen_is s.elsewhere (taken_found p v u (taken_at_last p v h u at))

-- A view is longer where a slot was given back, also if the slot was held for that.
pub released_longer : (p : ℕ) (es : List HistoryEntry) (v w : View) → Released p es v w → AreLonger v w
released_longer p es v w r = longer_there p es v w r.seen_is (elsewhere_left p es v w r) (subst (IsPrefix v.found) (sym r.found) (prefix_self v.found))

pub alone_longer : (p q : ℕ) (es : List HistoryEntry) (v : View) (h : Holding) (u w : View) → HeldAtLast p v h u → Released q es u w → AreLonger v w
alone_longer p q es v h u w at r = longer_both v u w (taken_longer p v h u at) (released_longer q es u w r)

pub held_longer : (p : ℕ) (es : List HistoryEntry) (v : View) (h : Holding) (u w : View) → HeldAtLast p v h u → Released p es u w → AreLonger v w
held_longer p es v h u w at r = alone_longer p p es v h u w at r

-- a process is given back as it was
pub drops : (past : SlotPast) (p : ℕ) (c : Course) (v w : View) (h : HeldForm) → IsFollowed past p c v (Some h) → Released p [] v w → Steps past p (dropped c) v None w
drops past p c v w h f r = record {
  follows = record {
    mine = r.mine_is ∙ (append-nil _ ∙ f.follows.mine);
    stand = subst (Stand past.lent past.first.seen c.blocks) (sym (r.seen_is ∙ append-nil _)) f.follows.stand;
    at = record { hold = refl; pending = refl; out = r.out };
  };
  elsewhere = elsewhere_left p [] v w r;
}

by_more : (es : List HistoryEntry) (e : Event) → ByHandler es → ¬ IsCall e → ByHandler (es ++ entry 0 e ∷ [])
by_more [] e b plain = (refl, plain, tt)
by_more (x ∷ es) e b plain = (b.0, b.1, by_more es e b.2 plain)

-- an event is added for a process that is held
pub adds : (past : SlotPast) (p : ℕ) (c : Course) (v : View) (h : HeldForm) (e : Event) (y : Value) → IsFollowed past p c v (Some h) → ¬ IsCall e → MayCome h.held.value e → y ≡ after h.held.value e
    → IsFollowed past p (add e c) v (Some (record h { held = record { slot = h.held.slot; value = y } }))
adds past p c v h e y f plain may is =
    let at : IsHeld p c _ h = f.follows.at in
    let both = append_assoc (seen v p) c.pending (entry 0 e ∷ []) in
    let a = event_adds (seen v p ++ c.pending) h.held.value y (entry 0 e) at.legal at.value plain may is in
    record {
      handler = f.handler;
      lent = f.lent;
      follows = record {
        mine = f.follows.mine;
        stand = f.follows.stand;
        at = record {
          slot = at.slot;
          hold = at.hold;
          really = at.really;
          out = at.out;
          was_legal = at.was_legal;
          by = by_more c.pending e at.by plain;
          legal = subst IsLegal both a.legal;
          value = a.value ∙ ap replay both;
          saved = at.saved;
        };
      };
    }

-- A course is followed after a step.
pub followed_then : (past : SlotPast) (p : ℕ) (c d : Course) (v w : View) (place next : Option HeldForm) → IsFollowed past p c v place → Steps past p d v next w → IsFollowed past p d w next
followed_then past p c d v w place next f s = record {
  handler = s.elsewhere.number ∙ f.handler;
  lent = s.elsewhere.lent ∙ f.lent;
  follows = s.follows;
}

pub then_steps : (past : SlotPast) (p : ℕ) (c d : Course) (v u w : View) (place next : Option HeldForm) → Steps past p c v place u → Steps past p d u next w → Steps past p d v next w
then_steps past p c d v u w place next a b = record { follows = b.follows; elsewhere = then_elsewhere p v u w a.elsewhere b.elsewhere }

-- a process that is taken and given back as it was
pub gives_back : (past : SlotPast) (p : ℕ) (v : View) (h : Holding) (u w : View) → IsFollowed past p past.course v None → HeldAtLast p v h u → Released p [] u w → Steps past p past.course v None w
gives_back past p v h u w f at r =
    let c = past.course in
    let free : IsFree c _ = f.follows.at in
    let up = takes past p until_point v h u h.value (λ e. absurd (cc)) f at refl in
    let down = drops past p (taken until_point c) u w _ (followed_then past p c _ v u _ _ f up) r in
    let same : dropped (taken until_point c) ≡ c = λ i. record { hold = sym free.hold i; blocks = c.blocks; pending = sym free.pending i } in
    subst (λ d. Steps past p d v None w) same (then_steps past p _ _ v u w _ _ up down)

-- what is seen of a slot that was held for a look is what stands there
pub looked_value : (past : SlotPast) (p : ℕ) (v : View) (h : Holding) (u w : View) → IsFollowed past p past.course v None → HeldAtLast p v h u → Released p [] u w → h.value ≡ value_with (seen w p) past.course
looked_value past p v h u w f at r =
    let free : IsFree past.course _ = f.follows.at in
    (since p v h u at).value ∙ (ap replay (sym (r.seen_is ∙ append-nil (seen u p))) ∙ ap (λ (es : List HistoryEntry). replay_from (replay (seen w p)) es) (sym free.pending))

-- an event of a process that is held for it alone
pub adds_alone : (past : SlotPast) (p : ℕ) (v : View) (h : Holding) (u w : View) (e : Event) → IsFollowed past p past.course v None → HeldAtLast p v h u → ¬ IsCall e → MayCome h.value e
    → Released p (entry 0 e ∷ []) u w → Steps past p (add_alone e past.course) v None w
adds_alone past p v h u w e f at plain may r =
    let c = past.course in
    let free : IsFree c _ = f.follows.at in
    let up = takes past p until_point v h u h.value (λ k. absurd (cc)) f at refl in
    let more = adds past p (taken until_point c) u _ e (after h.value e) (followed_then past p c _ v u _ _ f up) plain may refl in
    let block : entry 0 e ∷ [] ≡ c.pending ++ entry 0 e ∷ [] = ap (λ l. l ++ entry 0 e ∷ []) (sym free.pending) in
    let down = lets_go past p (add e (taken until_point c)) u w _ more (subst (λ l. Released p l u w) block r) in
    let same : let_go (add e (taken until_point c)) ≡ add_alone e c =
    λ i. record { hold = sym free.hold i; blocks = sym block i ∷ c.blocks; pending = sym free.pending i } in
    subst (λ d. Steps past p d v None w) same (then_steps past p _ _ v u w _ _ up down)

-- what is held may be let go with these entries
abbrev pub MayLetGo : View → Holding → List HistoryEntry → Type 0
MayLetGo u k es = (is_out u k.slot ≡ true) × (ByHandler es × (IsLegal (seen u k.slot ++ es) × (k.value ≡ replay (seen u k.slot ++ es))))

-- a process that is held for one event may be let go with it
pub one_event : (p : ℕ) (v : View) (h k : Holding) (u : View) (e : Event) → HeldAtLast p v h u → ¬ IsCall e → MayCome h.value e → k ≡ record { slot = h.slot; value = after h.value e }
    → MayLetGo u k (entry 0 e ∷ [])
one_event p v h k u e at plain may is =
    let s = since p v h u at in
    let slot : k.slot ≡ p = ap (λ (x : Holding). x.slot) is ∙ s.slot in
    let a = event_adds (seen u p) h.value k.value (entry 0 e) s.legal s.value plain may (ap (λ (x : Holding). x.value) is) in
    let there : (is_out u p ≡ true) × (ByHandler (entry 0 e ∷ []) × (IsLegal (seen u p ++ entry 0 e ∷ []) × (k.value ≡ replay (seen u p ++ entry 0 e ∷ [])))) =
    (s.out, ((refl, plain, tt), (a.legal, a.value))) in
    subst (λ q. (is_out u q ≡ true) × (ByHandler (entry 0 e ∷ []) × (IsLegal (seen u q ++ entry 0 e ∷ []) × (k.value ≡ replay (seen u q ++ entry 0 e ∷ []))))) (sym slot) there

-- the choice of if_held
pub free_case : {X : Type 0} (k : Hold) (x y : X) → k ≡ not_held → if_held k x y ≡ y
free_case k x y free = ap (λ j. if_held j x y) free

pub held_case : {X : Type 0} (k : Hold) (x y : X) → ((k ≡ not_held) → ⊥) → if_held k x y ≡ x
held_case not_held x y really = absurd (really refl)
held_case until_point x y really = refl
held_case until_resumed x y really = refl

-- a process that isn't held is held for one event, and let go
pub let_go_alone : (past : SlotPast) (p : ℕ) (v : View) (h k : Holding) (u w : View) (e : Event) → IsFollowed past p past.course v None → HeldAtLast p v h u → ¬ IsCall e → MayCome h.value e
    → k ≡ record { slot = h.slot; value = after h.value e } → Released k.slot (entry 0 e ∷ []) u w → Steps past p (add_alone e past.course) v None w
let_go_alone past p v h k u w e f at plain may is r =
    let slot : k.slot ≡ p = ap (λ (x : Holding). x.slot) is ∙ (since p v h u at).slot in
    adds_alone past p v h u w e f at plain may (subst (λ q. Released q (entry 0 e ∷ []) u w) slot r)

pub alone : (past : SlotPast) (p : ℕ) (v : View) (place : Option HeldForm) (h k : Holding) (u w : View) (e : Event) (other : Course) → IsFollowed past p past.course v place → place ≡ None
    → HeldAtLast p v h u → ¬ IsCall e → MayCome h.value e → k ≡ record { slot = h.slot; value = after h.value e } → Released k.slot (entry 0 e ∷ []) u w
    → Steps past p (if_held past.course.hold other (add_alone e past.course)) v None w
alone past p v place h k u w e other f none at plain may is r =
    let free_now = subst (IsFollowed past p past.course v) none f in
    let free : IsFree past.course _ = free_now.follows.at in
    subst (λ d. Steps past p d v None w) (sym (free_case past.course.hold other (add_alone e past.course) free.hold)) (let_go_alone past p v h k u w e free_now at plain may is r)

-- an event of a process that is held
pub held_adds : (past : SlotPast) (p : ℕ) (v : View) (place : Option HeldForm) (h : HeldForm) (k : Holding) (e : Event) (other : Course) → IsFollowed past p past.course v place → place ≡ Some h
    → ¬ IsCall e → MayCome h.held.value e → k ≡ record { slot = h.held.slot; value = after h.held.value e }
    → Steps past p (if_held past.course.hold (add e past.course) other) v (Some (record h { held = k })) v
held_adds past p v place h k e other f there plain may is =
    let held_now = subst (IsFollowed past p past.course v) there f in
    let held : IsHeld p past.course _ h = held_now.follows.at in
    let more = adds past p past.course v h e (after h.held.value e) held_now plain may refl in
    let really : (past.course.hold ≡ not_held) → ⊥ = held.really in
    subst₂ (λ d (x : Holding). Steps past p d v (Some (record h { held = x })) v) (sym (held_case past.course.hold (add e past.course) other really)) (sym is)
    (record { follows = more.follows; elsewhere = stays p v })

-- what is held has the table of which it got a copy
pub has_table : (h k : Holding) (copy t : WorkerTable) → k ≡ record { slot = h.slot; value = after h.value (loaded copy) } → copy ≡ t → k ≡ record { slot = h.slot; value = after h.value (loaded t) }
has_table h k copy t is same = is ∙ ap (λ (x : WorkerTable). record { slot = h.slot; value = after h.value (loaded x) }) same

-- a process that was taken for a load is held with its table
pub kept : (past : SlotPast) (p : ℕ) (v : View) (place : Option HeldForm) (h : HeldForm) (k : Holding) (u : View) (t : WorkerTable) (keep : Bool) (other : Course) → IsFollowed past p past.course v place
    → place ≡ None → Steps past p (taken until_point past.course) v (Some h) u → k ≡ record { slot = h.held.slot; value = after h.held.value (loaded t) } → keep ≡ true
    → Steps past p (if_held past.course.hold other (load_free keep t past.course)) v (Some (record h { held = k })) u
kept past p v place h k u t keep other f none up is keeps =
    let c = past.course in
    let free_now = subst (IsFollowed past p c v) none f in
    let free : IsFree c _ = free_now.follows.at in
    let more = adds past p (taken until_point c) u h (loaded t) (after h.held.value (loaded t)) (followed_then past p c _ v u _ _ free_now up) (λ z. z) tt refl in
    let same : add (loaded t) (taken until_point c) ≡ load_free true t c = λ i. record { hold = until_point; blocks = c.blocks; pending = free.pending i ++ entry 0 (loaded t) ∷ [] } in
    let whole : add (loaded t) (taken until_point c) ≡ if_held c.hold other (load_free keep t c) =
    same ∙ (ap (λ b. load_free b t c) (sym keeps) ∙ sym (free_case c.hold other (load_free keep t c) free.hold)) in
    subst₂ (λ d (x : Holding). Steps past p d v (Some (record h { held = x })) u) whole (sym is) (record { follows = more.follows; elsewhere = up.elsewhere })

-- what is known of a slot doesn't rest on the course that its past names
pub with_course : (past : SlotPast) (p : ℕ) (c d : Course) (v : View) (place : Option HeldForm) → IsFollowed past p c v place → IsFollowed (record past { course = d }) p c v place
with_course past p c d v place f = record { handler = f.handler; lent = f.lent; follows = f.follows }

-- a process that is held may be given up, and is gone then
pub may_give_up : (past : SlotPast) (p : ℕ) (v : View) (place : Option HeldForm) (h : HeldForm) (k : Holding) → IsFollowed past p past.course v place → place ≡ Some h
    → k ≡ record { slot = h.held.slot; value = after h.held.value given_up }
    → IsFollowed (record past { course = add given_up past.course }) k.slot (add given_up past.course) v (Some (record h { held = k }))
may_give_up past p v place h k f there is =
    let c = add given_up past.course in
    let held_now = subst (IsFollowed past p past.course v) there f in
    let held : IsHeld p past.course _ h = held_now.follows.at in
    let slot : k.slot ≡ p = ap (λ (x : Holding). x.slot) is ∙ held.slot in
    let more = adds past p past.course v h given_up (after h.held.value given_up) held_now (λ z. z) tt refl in
    subst₂ (λ q (x : Holding). IsFollowed (record past { course = c }) q c v (Some (record h { held = x }))) (sym slot) (sym is) (with_course past p c c v _ more)

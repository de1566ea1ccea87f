-- What is noted of the slots in which a process can begin stays so.
use Rattle.std.proofs.Common.{◌≡◌, ◌≢◌, ℕ, ◌<◌, Bool, true, false, if◌then◌else◌, List, [], ◌++◌, set, get_or, replicate, refl, ap, sym, subst, ◌∙◌, arith, Option, Some, None, length-set, get_or-set_same, get_or-set_other, ◌==◌, ◌+◌, is_some, ⊎_elim, true≢false, Result, Ok, Err}
use Rattle.std.proofs.lemmas.Bool.Decides.{nat_tests}
use Rattle.std.proofs.lemmas.List.{get_or-replicate}
use native.Mathlib.Decide.{ℕ_discrete}
use mathlib.Core.Logic.{dite}
use mathlib.Core.List.{IsPrefix}
use Rattle.proc_table.specs.declared.view.View.{View}
use Rattle.proc_table.specs.declared.pid.Pid.{Pid}
use Rattle.proc_history.specs.declared.value.Value.{Value}
use Rattle.proc_history.specs.declared.beginning.Beginning.{Beginning}
use Rattle.proc_history.specs.Events.{HistoryEntry, own}
use Rattle.proc_history.specs.Histories.{replay, IsLegal}
use Rattle.proc_history.specs.Values.{next_round}
use Rattle.proc_table.specs.Parts.{Part, part_of, unseen}
use Rattle.proc_table.specs.Views.{seen, is_out, handler_view}
use Rattle.proc_table.specs.Agrees.{slots, Agrees}
use Rattle.proc_table.specs.Steps.{Me}
use Rattle.proc_table.specs.Seats.{IsHandler}
use Rattle.proc_table.specs.Holds.{Holding, Released}
use Rattle.proc_table.specs.Waits.{HeldAtLast}
use Rattle.proc_table.specs.Begins.{BeganAt}
use Rattle.proc_table.specs.Free.{next_in, Noted, LowestFree, BeganLowest, HandlerKnows}
use Rattle.proc_history.proofs.Entries.{own-append, append_nothing}
use Rattle.proc_history.proofs.StandLemmas.{next_stays}
use Rattle.proc_table.proofs.MeetLemmas.{AfterJoin}
use Rattle.proc_table.proofs.Runs.{reached_agrees, all_replicate, length_replicate}
use Rattle.proc_table.proofs.SlotTurns.{history_is}

-- after what was seen lie entries of others alone
strangers_behind : (n : ℕ) (g h : List HistoryEntry) (p : IsPrefix g h) → own n h ≡ own n g → own n p.0 ≡ []
strangers_behind n g h p same =
    append_nothing (own n g) (own n p.0) (sym (own-append n g p.0) ∙ (ap (own n) p.1 ∙ same))

-- a process can begin after them where it could before, with the same round
pub next_behind : (g h : List HistoryEntry) → IsPrefix g h → own 0 h ≡ own 0 g → IsLegal h → next_round (replay h) ≡ next_round (replay g)
next_behind g h p same legal =
    ap (λ k. next_round (replay k)) (sym p.1)
    ∙ next_stays g p.0 (strangers_behind 0 g h p same) (subst IsLegal (sym p.1) legal)

pub handler_knows : HandlerKnows
handler_knows s r i p v h sits handler all =
    let a : Agrees s = reached_agrees s r in
    let f = (a.each p).parts i v sits in
    let same : a.history p ≡ h = history_is s a p h all in
    let zero : (k : List HistoryEntry) → own v.number k ≡ own 0 k = λ k. ap (λ n. own n k) handler in
    let own_same : own 0 (a.history p) ≡ own 0 (seen v p) = sym (zero (a.history p)) ∙ (f.own_all ∙ (sym f.own_seen ∙ zero (seen v p))) in
    ap (λ k. next_round (replay k)) (sym same) ∙ next_behind (seen v p) (a.history p) f.begins own_same (a.each p).legal

-- one slot is noted anew
pub noted_at : (rounds : List (Option ℕ)) (p : ℕ) (o : Option ℕ) (v w : View) → p < slots → Noted rounds v
    → ((q : ℕ) → q ≢ p → part_of w.parts q ≡ part_of v.parts q) → next_in w p ≡ o → Noted (set rounds p o) w
noted_at rounds p o v w inside was others is =
    let long = was.long in record {
      long = length-set rounds p o ∙ was.long;
      each = λ q within. dite (ℕ_discrete q p)
          (λ e. subst (λ z. get_or (set rounds p o) z None ≡ next_in w z) (sym e) (get_or-set_same rounds p o None (omega arith) ∙ sym is))
          (λ ne. get_or-set_other rounds p q o None ne
          ∙ (was.each q within ∙ ap (λ (x : Part). if x.out then None else next_round (replay x.seen)) (sym (others q ne))));
    }

-- the handler gave a slot back, with this value
pub noted_released : (rounds : List (Option ℕ)) (p : ℕ) (es : List HistoryEntry) (x : Value) (v w : View) → p < slots → Noted rounds v → Released p es v w
    → x ≡ replay (seen v p ++ es) → Noted (set rounds p (next_round x)) w
noted_released rounds p es x v w inside was r is =
    noted_at rounds p (next_round x) v w inside was r.rest.others
    (ap (λ (b : Bool). if b then None else next_round (replay (seen w p))) r.out
    ∙ (ap (λ k. next_round (replay k)) r.seen_is ∙ ap next_round (sym is)))

-- the handler took a pass back
pub noted_joined : (rounds : List (Option ℕ)) (v w : View) (z : Me) → IsHandler v → Noted rounds v → AfterJoin v w z → Noted rounds z.0
noted_joined rounds v w z h was j = record {
  long = was.long;
  each = λ p inside.
      let zero : (k : List HistoryEntry) → own v.number k ≡ own 0 k = λ k. ap (λ n. own n k) h.handler in
      let same : own 0 (seen z.0 p) ≡ own 0 (seen v p) = sym (zero (seen z.0 p)) ∙ (j.is.once p ∙ (sym (h.known.once p) ∙ zero (seen v p))) in
      was.each p inside
      ∙ (ap (λ (b : Bool). if b then None else next_round (replay (seen v p))) (sym (j.is.out_is p))
      ∙ ap (λ (o : Option ℕ). if is_out z.0 p then None else o) (sym (next_behind (seen v p) (seen z.0 p) (j.is.first p) same (j.is.legal p))));
}

-- in a new table a process can begin in each slot, with round 1
pub first_noted : (n : ℕ) → n ≡ slots → Noted (replicate n (Some 1)) (handler_view slots)
first_noted n is = record {
  long = length_replicate n (Some 1) ∙ is;
  each = λ p inside. get_or-replicate n p (Some 1) None (subst (λ m. p < m) (sym is) inside)
      ∙ ap (λ (x : Part). if x.out then None else next_round (replay x.seen)) (sym (all_replicate slots unseen p));
}

next_facts : (o : Bool) (last : Bool) (n r : ℕ) → (if o then None else if last then None else Some n) ≡ Some r → (o ≡ false) × (last ≡ false) × (r ≡ n)
next_facts true last n r e = absurd (cc)
next_facts false true n r e = absurd (cc)
next_facts false false n r e = (refl, refl, cc)

not_out : (o : Bool) (n : Option ℕ) (r : ℕ) → (if o then None else n) ≡ Some r → n ≡ Some r
not_out true n r e = absurd (cc)
not_out false n r e = e

-- a slot that was waited for is held with the round that was known
round_held : (v u : View) (p round : ℕ) (h : Holding) → v.number ≡ 0 → next_in v p ≡ Some round → HeldAtLast p v h u → next_round h.value ≡ Some round
round_held v u p round h handler free at =
    let looked = at.held.looked in
    let before : seen at.before p ≡ seen v p = ap (λ (z : View). seen z p) at.waited.is in
    let zero : at.before.number ≡ 0 = ap (λ (z : View). z.number) at.waited.is ∙ handler in
    let none : own 0 looked.between ≡ [] = subst (λ n. own n looked.between ≡ []) zero looked.strangers in
    let legal : IsLegal (seen at.before p ++ looked.between) = subst IsLegal looked.seen_is looked.legal in
    ap next_round at.held.value
    ∙ (ap (λ k. next_round (replay k)) looked.seen_is
    ∙ (next_stays (seen at.before p) looked.between none legal
    ∙ (ap (λ k. next_round (replay k)) before ∙ not_out (is_out v p) _ round free)))

lowest_there : (v : View) (low got : Pid) → LowestFree v low → got.slot ≡ low.slot → got.round ≡ low.round → LowestFree v got
lowest_there v low got l slot round = record {
  next = ap (λ p. next_in v p) slot ∙ (l.next ∙ ap (λ (n : ℕ). Some n) (sym round));
  lower = λ q lt. l.lower q (subst (λ p. q < p) slot lt);
}

-- in the lowest slot a process begins, with the round that was known
pub began_lowest : (v w : View) (low : Pid) (b : Beginning) (r : Result Pid Beginning) → v.number ≡ 0 → LowestFree v low → BeganAt low.slot b v r w → BeganLowest b v r w
began_lowest v w low b (Ok pid) handler l began =
    let h : Holding = began.0 in
    let known = next_facts (is_some h.value.now) (h.value.round == 4294967295) (h.value.round + 1) low.round (round_held v began.1 low.slot low.round h handler l.next began.2) in
    (lowest_there v low pid l began.4 (began.5 ∙ sym known.2), subst (λ p. BeganAt p b v (Ok pid) w) (sym began.4) began)
began_lowest v w low b (Err given) handler l began =
    let h : Holding = began.0 in
    let known = next_facts (is_some h.value.now) (h.value.round == 4294967295) (h.value.round + 1) low.round (round_held v began.1 low.slot low.round h handler l.next began.2) in
    absurd (⊎_elim
    (λ some. true≢false (sym some ∙ known.0))
    (λ last. absurd (let no = known.1 in grind (arith, nat_tests)))
    began.3)

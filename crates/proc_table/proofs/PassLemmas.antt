-- What the calls of a pass leave.
use Rattle.std.proofs.Common.{◌≡◌, ◌≢◌, ◌==◌, ℕ, zero, suc, ◌<◌, Bool, true, false, if◌then◌else◌, MatchBool, List, [], ◌∷◌, ◌++◌, length, refl, ap, sym, subst, subst₂, ◌∙◌, inl, inr, Option, Some, None, option_map, append-nil}
use native.Mathlib.Decide.{ℕ_discrete}
use mathlib.Core.Logic.{dite}
use Rattle.atomic_table.specs.Table.{rest}
use Rattle.proc_table.specs.declared.view.View.{View}
use Rattle.proc_history.specs.declared.value.Value.{Value}
use Rattle.proc_history.specs.declared.value.Now.{Now}
use Rattle.proc_history.specs.declared.value.Outcome.{Outcome}
use Rattle.proc_history.specs.declared.value.Outcome.TheVariants.{Done, Crashed, Ended}
use Rattle.proc_history.specs.Events.{HistoryEntry, MayDo, own, entry}
use Rattle.proc_history.specs.Events.Event.{call}
use Rattle.proc_table.specs.Parts.{Part}
use Rattle.proc_history.specs.Histories.{replay, replay_from, IsLegal, LegalFrom}
use Rattle.proc_history.specs.Values.{nothing, up_in, up_at, answer, outcome_of}
use Rattle.proc_history.specs.Outcomes.{outcome_in, state_in, after_call, call_entries}
use Rattle.proc_table.specs.Views.{seen, mine, is_out, taken}
use Rattle.proc_table.specs.Agrees.{slots}
use Rattle.proc_history.specs.Events.{MayAdd}
use Rattle.proc_table.specs.Places.{LiesAt}
use Rattle.proc_table.specs.Steps.{Me, Ready, Fresh, Took, Adding, InHand, given, Known}
use Rattle.proc_table.specs.Seats.{IsPass}
use Rattle.proc_table.specs.Calls.{Looked, Called, Answers, Shows, tried_of, peeked_of}
use Rattle.proc_history.proofs.Entries.{own-append, own_all_by, added_by, replay-append, legal-append}
use Rattle.proc_table.proofs.PartViews.{PartNow, set_part, then_part, part_known}

pub from_map : {A B : Type 0} (f : A → B) (u : Option A) (o : B) → Some o ≡ option_map f u → (a : A) × (u ≡ Some a) × (o ≡ f a)
from_map f None o e = absurd (cc)
from_map f (Some a) o e = (a, refl, cc)

pub from_map_none : {A B : Type 0} (f : A → B) (u : Option A) → None ≡ option_map f u → u ≡ None
from_map_none f None e = refl
from_map_none f (Some a) e = absurd (cc)

-- who is up in its round is up
pub up_then : (round : ℕ) (v : Value) (n : Now) → up_in round v ≡ Some n → up_at v.now ≡ Some n
up_then round v n e = go (v.round == round) e
  where
    go : (b : Bool) → (if b then up_at v.now else None) ≡ Some n → up_at v.now ≡ Some n
    go true e = e
    go false e = absurd (cc)

may_call : (n input : ℕ) (o : Option Outcome) → n ≢ 0 → MayAdd n (call_entries n input o)
may_call zero input o ne = absurd (ne refl)
may_call (suc n) input None ne = inl refl
may_call (suc n) input (Some o) ne = inr (input, o, refl)

pub may_nothing : (n : ℕ) → MayAdd n []
may_nothing zero = tt
may_nothing (suc n) = inl refl

client_calls : (n input : ℕ) (o : Outcome) → n ≢ 0 → MayDo n (call input o)
client_calls zero input o ne = absurd (ne refl)
client_calls (suc n) input o ne = tt

legal_call : (n round input : ℕ) (v : Value) (o : Option Outcome) → n ≢ 0 → o ≡ outcome_in round input v → LegalFrom v (call_entries n input o)
legal_call n round input v None pass e = tt
legal_call n round input v (Some o) pass e =
    let f = from_map (λ (m : Now). outcome_of (answer m input)) (up_in round v) o e in
    (client_calls n input o pass, (f.0, up_then round v f.0 f.1, f.2), tt)

replay_call : (n input : ℕ) (v : Value) (o : Option Outcome) → replay_from v (call_entries n input o) ≡ after_call v input o
replay_call n input v None = refl
replay_call n input v (Some o) = refl

-- the first slot's value
abbrev front_or : Value → List (ℕ × Value) → Value
front_or y [] = y
front_or y (x ∷ xs) = x.1

-- what is lent of a slot in hand is its value
pub lent : (p i : ℕ) (me : Me) (x : Value) → InHand p me → me.1 ≡ (i, x) ∷ rest me.1 → (x ≡ replay (seen me.0 p)) × (rest me.1 ≡ [])
lent p i me x hand is =
    let y = replay (seen me.0 p) in
    (ap (front_or y) (sym is) ∙ ap (front_or y) hand.value, ap rest hand.value)

-- a seat that has a slot in hand may add a call of its process
pub call_adds : (p i round input : ℕ) (me : Me) (x y : Value) (o : Option Outcome) → LiesAt p i → InHand p me → me.0.number ≢ 0 → me.1 ≡ (i, x) ∷ rest me.1
    → o ≡ outcome_in round input x → y ≡ after_call x input o → Adding (call_entries me.0.number input o) p (me.0, (i, y) ∷ rest me.1)
call_adds p i round input me x y o at hand pass lends is next =
    let es = call_entries me.0.number input o in
    let h = seen me.0 p in
    let l = lent p i me x hand lends in
    let is' : o ≡ outcome_in round input (replay h) = is ∙ ap (outcome_in round input) l.0 in
    let left : y ≡ replay (h ++ es) = next ∙ (ap (λ z. after_call z input o) l.0 ∙ (sym (replay_call me.0.number input (replay h) o) ∙ sym (replay-append nothing h es))) in
    record {
      ready = hand.ready;
      out = hand.out;
      may = may_call me.0.number input o pass;
      legal = legal-append nothing h es hand.legal (legal_call me.0.number round input (replay h) o pass is');
      value = λ j. (at.is j, left j) ∷ l.1 j;
    }

pub is_taken : (p : ℕ) (v : View) (h : List HistoryEntry) → p < slots → length v.parts ≡ slots → PartNow p v (taken v p h) h (mine v p) true false
is_taken p v h inside long =
    let x = set_part p v h (mine v p) true false inside long in
    record {
      seen_is = x.seen_is;
      mine_is = x.mine_is;
      out_is = x.out_is;
      laid_is = x.laid_is;
      rest = record { number = refl; count = refl; lent = refl; others = x.rest.others };
      parts = x.parts;
      live = refl;
      alone = refl;
    }

-- a slot that was taken and given back
pub record Back (p : ℕ) (v : View) (h es : List HistoryEntry) (w : View) : Type 0 where
  pub part_is : PartNow p v w (h ++ es) (mine v p ++ es) false false
  pub found : w.found ≡ v.found ++ (p, 0) ∷ []

pub is_back : (p : ℕ) (v : View) (h es : List HistoryEntry) → p < slots → length v.parts ≡ slots → Back p v h es (given (taken v p h) p es)
is_back p v h es inside long =
    let t = is_taken p v h inside long in
    record {
      part_is = subst₂ (λ s m. PartNow p v (given (taken v p h) p es) s m false false) (ap (λ g. g ++ es) t.seen_is) (ap (λ g. g ++ es) t.mine_is)
          (then_part p v (taken v p h) h (mine v p) true false t (seen (taken v p h) p ++ es) (mine (taken v p h) p ++ es) false false inside);
      found = refl;
    }

back_pass : (p : ℕ) (v : View) (h es : List HistoryEntry) (w : View) → Back p v h es w → Ready w → Known w → IsPass v → IsPass w
back_pass p v h es w b ready known pass = record {
  ready = ready;
  known = known;
  pass = λ e. pass.pass (sym b.part_is.rest.number ∙ e);
  none_out = λ q. dite (ℕ_discrete q p)
      (λ e. subst (λ z. is_out w z ≡ false) (sym e) b.part_is.out_is)
      (λ ne. ap (λ (x : Part). x.out) (b.part_is.rest.others q ne) ∙ pass.none_out q);
}

-- what a pass is left with
pub record Left (v : View) (w : Me) : Type 0 where
  pub pass : IsPass w.0
  pub empty : w.1 ≡ []

pub looked : (p : ℕ) (v : View) (w : View) (h : List HistoryEntry) → Fresh v p h → Back p v h [] w → Looked p v w
looked p v w h f b = record {
  between = f.between;
  strangers = f.strangers;
  alone = f.alone;
  seen_is = b.part_is.seen_is ∙ (append-nil h ∙ f.is);
  mine_is = b.part_is.mine_is ∙ append-nil (mine v p);
  legal = subst IsLegal (sym (b.part_is.seen_is ∙ append-nil h)) f.legal;
  once = rw (b.part_is.seen_is, b.part_is.mine_is) (rw (append-nil h, append-nil (mine v p)) f.once);
  found = b.found;
  rest = b.part_is.rest;
}

pub own_behind : (n : ℕ) (h es m : List HistoryEntry) → MayAdd n es → own n h ≡ m → own n (h ++ es) ≡ m ++ es
own_behind n h es m may is = own-append n h es ∙ (ap (λ w. w ++ own n es) is ∙ ap (λ w. m ++ w) (own_all_by n es (added_by n es may)))

called : (p round input : ℕ) (v w : View) (h : List HistoryEntry) (o : Outcome) → Fresh v p h → IsPass v → Some o ≡ outcome_in round input (replay h)
    → Back p v h (entry v.number (call input o) ∷ []) w → Called p round input o v w
called p round input v w h o f pass is b =
    let es = entry v.number (call input o) ∷ [] in
    let up = from_map (λ (m : Now). outcome_of (answer m input)) (up_in round (replay h)) o is in
    record {
      between = f.between;
      strangers = f.strangers;
      up = (up.0, ap (λ g. up_in round (replay g)) (sym f.is) ∙ up.1, up.2);
      seen_is = b.part_is.seen_is ∙ ap (λ g. g ++ es) f.is;
      mine_is = b.part_is.mine_is;
      legal = subst IsLegal (sym b.part_is.seen_is) (legal-append nothing h es f.legal (legal_call v.number round input (replay h) (Some o) pass.pass is));
      once = rw (b.part_is.rest.number, b.part_is.seen_is, b.part_is.mine_is) (own_behind v.number h es (mine v p) (may_call v.number input (Some o) pass.pass) f.once);
      found = b.found;
      rest = b.part_is.rest;
    }

answered : (p round input : ℕ) (v w : View) (h : List HistoryEntry) (o : Option Outcome) → Fresh v p h → IsPass v → o ≡ outcome_in round input (replay h)
    → Back p v h (call_entries v.number input o) w → Answers p round input v (tried_of o) w
answered p round input v w h (Some (Done r)) f pass is b = called p round input v w h (Done r) f pass is b
answered p round input v w h (Some Crashed) f pass is b = called p round input v w h Crashed f pass is b
answered p round input v w h (Some (Ended r)) f pass is b = called p round input v w h (Ended r) f pass is b
answered p round input v w h None f pass is b =
    (looked p v w h f b, rw (b.part_is.seen_is ∙ append-nil h) (from_map_none (λ (m : Now). outcome_of (answer m input)) (up_in round (replay h)) is))

-- a slot that was taken, called and given back
pub record CallMade (p round input : ℕ) (v : View) (o : Option Outcome) (w : Me) : Type 0 where
  pub answer : Answers p round input v (tried_of o) w.0
  pub left : Left v w

pub call_made : (p round input : ℕ) (v : View) (m w : Me) (o : Option Outcome) → p < slots → IsPass v → Took p (v, []) m
    → o ≡ outcome_in round input (replay (seen m.0 p)) → w ≡ (given m.0 p (call_entries m.0.number input o), []) → CallMade p round input v o w
call_made p round input v m w o inside pass t is given_is =
    let h = t.h in
    let es = call_entries v.number input o in
    let x = is_taken p v h inside pass.known.parts in
    let m0 : m.0 ≡ taken v p h = ap (λ (z : Me). z.0) t.is in
    let is' : o ≡ outcome_in round input (replay h) = is ∙ ap (λ g. outcome_in round input (replay g)) (ap (λ (z : View). seen z p) m0 ∙ x.seen_is) in
    let b = is_back p v h es inside pass.known.parts in
    let once = own_behind v.number h es (mine v p) (may_call v.number input o pass.pass) t.fresh.once in
    let legal = legal-append nothing h es t.fresh.legal (legal_call v.number round input (replay h) o pass.pass is') in
    let w0 = given (taken v p h) p es in
    let there : w ≡ (w0, []) = given_is ∙ ap (λ (z : View). (given z p (call_entries z.number input o), [])) m0 in
    subst (CallMade p round input v o) (sym there) (record {
      answer = answered p round input v w0 h o t.fresh pass is' b;
      left = record {
        pass = back_pass p v h es w0 b (record { live = pass.ready.live; alone = pass.ready.alone }) (part_known p v w0 (h ++ es) (mine v p ++ es) false false b.part_is pass.known once legal) pass;
        empty = refl;
      };
    })

shown : (p round : ℕ) (v w : View) (h : List HistoryEntry) (s : Option ℕ) → Fresh v p h → s ≡ state_in round (replay h)
    → Back p v h [] w → Shows p round v (peeked_of s) w
shown p round v w h (Some s) f is b =
    let up = from_map (λ (n : Now). n.state) (up_in round (replay h)) s is in
    (looked p v w h f b, (up.0, ap (λ g. up_in round (replay g)) (b.part_is.seen_is ∙ append-nil h) ∙ up.1, up.2))
shown p round v w h None f is b =
    (looked p v w h f b, rw (b.part_is.seen_is ∙ append-nil h) (from_map_none (λ (n : Now). n.state) (up_in round (replay h)) is))

pub record PeekMade (p round : ℕ) (v : View) (s : Option ℕ) (w : Me) : Type 0 where
  pub answer : Shows p round v (peeked_of s) w.0
  pub left : Left v w

pub peek_made : (p round : ℕ) (v : View) (m w : Me) (s : Option ℕ) → p < slots → IsPass v → Took p (v, []) m
    → s ≡ state_in round (replay (seen m.0 p)) → w ≡ (given m.0 p [], []) → PeekMade p round v s w
peek_made p round v m w s inside pass t is given_is =
    let h = t.h in
    let x = is_taken p v h inside pass.known.parts in
    let m0 : m.0 ≡ taken v p h = ap (λ (z : Me). z.0) t.is in
    let is' : s ≡ state_in round (replay h) = is ∙ ap (λ g. state_in round (replay g)) (ap (λ (z : View). seen z p) m0 ∙ x.seen_is) in
    let b = is_back p v h [] inside pass.known.parts in
    let once = own_behind v.number h [] (mine v p) (may_nothing v.number) t.fresh.once in
    let legal = legal-append nothing h [] t.fresh.legal tt in
    let w0 = given (taken v p h) p [] in
    let there : w ≡ (w0, []) = given_is ∙ ap (λ (z : View). (given z p [], [])) m0 in
    subst (PeekMade p round v s) (sym there) (record {
      answer = shown p round v w0 h s t.fresh is' b;
      left = record {
        pass = back_pass p v h [] w0 b (record { live = pass.ready.live; alone = pass.ready.alone }) (part_known p v w0 (h ++ []) (mine v p ++ []) false false b.part_is pass.known once legal) pass;
        empty = refl;
      };
    })

pub on_zero : (A B : Type 0) (n : ℕ) → n ≡ 0 → MatchBool (n == 0) A B → A
on_zero A B n e m = subst (λ k. MatchBool (k == 0) A B) e m

-- a seat with nothing else in hand
pub took_alone : (p : ℕ) (me m : Me) → me.1 ≡ [] → Took p me m → Took p (me.0, []) m
took_alone p me m none t = subst (λ (l : List (ℕ × Value)). Took p (me.0, l) m) none t

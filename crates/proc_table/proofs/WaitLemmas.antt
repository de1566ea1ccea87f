-- Steps that found the slot taken.
use Rattle.std.proofs.Common.{◌≡◌, ◌⊎◌, ℕ, List, [], ◌∷◌, ◌++◌, refl, ap, sym, subst, ◌∙◌, append-nil, append_assoc}
use Rattle.proc_table.specs.declared.view.View.{View}
use Rattle.proc_history.specs.Events.{HistoryEntry, own}
use Rattle.proc_table.specs.Parts.{Part, part_of}
use Rattle.proc_table.specs.Views.{seen, mine, found_more}
use Rattle.proc_table.specs.Calls.{Elsewhere}
use Rattle.proc_table.specs.Holds.{Holding, Released}
use Rattle.proc_table.specs.Waits.{AreBusy, at_slot, Waited, FoundAtLast, HeldAtLast, HeldSince}

busy_more : (ns : List ℕ) (n : ℕ) → AreBusy ns → (n ≡ 1) ⊎ (n ≡ 2) → AreBusy (ns ++ n ∷ [])
busy_more [] n b one = (one, tt)
busy_more (m ∷ ns) n b one = (b.0, busy_more ns n b.1 one)

at_slot_more : (p : ℕ) (ns : List ℕ) (n : ℕ) → at_slot p (ns ++ n ∷ []) ≡ at_slot p ns ++ (p, n) ∷ []
at_slot_more p [] n = refl
at_slot_more p (m ∷ ns) n = ap (λ (l : List (ℕ × ℕ)). (p, m) ∷ l) (at_slot_more p ns n)

pub waited_not : (p : ℕ) (v : View) → Waited p v v
waited_not p v = record { words = []; busy = tt; is = ap (λ l. record v { found = l }) (sym (append-nil v.found)) }

pub waited_more : (p : ℕ) (v w u : View) (n : ℕ) → Waited p v w → (n ≡ 1) ⊎ (n ≡ 2) → u ≡ found_more w p n → Waited p v u
waited_more p v w u n was one is = record {
  words = was.words ++ n ∷ [];
  busy = busy_more was.words n was.busy one;
  is = is ∙ (ap (λ (z : View). found_more z p n) was.is ∙ ap (λ l. record v { found = l })
      (append_assoc v.found (at_slot p was.words) ((p, n) ∷ []) ∙ ap (λ l. v.found ++ l) (sym (at_slot_more p was.words n))));
}

-- a take that got the slot, after the waiting
pub found_since : (p : ℕ) (v u w : View) → Waited p v u → w.found ≡ u.found ++ (p, 0) ∷ [] → FoundAtLast p v w
found_since p v u w was got = record {
  words = was.words;
  busy = was.busy;
  is = got ∙ ap (λ (z : View). z.found ++ (p, 0) ∷ []) was.is;
}

-- what is known of a slot that is held, since before it was waited for
pub since : (p : ℕ) (v : View) (h : Holding) (w : View) → HeldAtLast p v h w → HeldSince p v h w
since p v h w at =
    let looked = at.held.looked in
    let number : at.before.number ≡ v.number = ap (λ (z : View). z.number) at.waited.is in
    let lent : at.before.lent ≡ v.lent = ap (λ (z : View). z.lent) at.waited.is in
    let parts : at.before.parts ≡ v.parts = ap (λ (z : View). z.parts) at.waited.is in
    record {
      between = looked.between;
      strangers = subst (λ n. own n looked.between ≡ []) number looked.strangers;
      handler = sym number ∙ at.held.handler;
      alone = λ none. looked.alone at.held.handler (lent ∙ none);
      seen_is = looked.seen_is ∙ ap (λ (l : List Part). (part_of l p).seen ++ looked.between) parts;
      mine_is = looked.mine_is ∙ ap (λ (l : List Part). (part_of l p).mine) parts;
      legal = looked.legal;
      once = subst (λ n. own n (seen w p) ≡ mine w p) number looked.once;
      slot = at.held.slot;
      out = at.held.out;
      value = at.held.value;
      found = found_since p v at.before w at.waited looked.found;
      elsewhere = record {
        number = looked.rest.number ∙ number;
        count = looked.rest.count ∙ ap (λ (z : View). z.count) at.waited.is;
        lent = looked.rest.lent ∙ lent;
        others = λ q ne. looked.rest.others q ne ∙ ap (λ (l : List Part). part_of l q) parts;
      };
    }

-- a release leaves other slots as they were
pub elsewhere_left : (p : ℕ) (entries : List HistoryEntry) (v w : View) → Released p entries v w → Elsewhere p v w
elsewhere_left p entries v w r = r.rest

-- a hold and a release of what was held leave them so
pub held_and_released : (p : ℕ) (entries : List HistoryEntry) (v : View) (h : Holding) (u w : View) → HeldAtLast p v h u → Released p entries u w → Elsewhere p v w
held_and_released p entries v h u w at r =
    let held = (since p v h u at).elsewhere in
    let left = elsewhere_left p entries u w r in
    record {
      number = left.number ∙ held.number;
      count = left.count ∙ held.count;
      lent = left.lent ∙ held.lent;
      others = λ q ne. left.others q ne ∙ held.others q ne;
    }

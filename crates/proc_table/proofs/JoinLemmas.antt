-- A split and a join keep agreement.
use Rattle.std.proofs.Common.{◌≡◌, ◌≢◌, ℕ, zero, suc, ◌+◌, ◌<◌, ◌≤◌, nat_lt, if◌then◌else◌, Bool, true, false, List, [], ◌∷◌, ◌++◌, length, map, set, slice_index, refl, ap, sym, subst, ◌∙◌, inl, inr, ⊎_elim, arith, true≢false, Some, None}
use Rattle.std.specs.List.{Contains}
use Rattle.std.proofs.lemmas.Bool.Decides.{nat_tests}
use mathlib.Core.Option.{Option}
use mathlib.Core.List.{IsPrefix}
use native.Mathlib.Decide.{ℕ_discrete}
use mathlib.Core.Logic.{dite}
use lib.ListN.{get_elem?}
use Rattle.proc_table.specs.declared.view.View.{View}
use Rattle.proc_history.specs.declared.value.Value.{Value}
use Rattle.proc_history.specs.Events.{HistoryEntry, own}
use Rattle.proc_table.specs.Parts.{Part, Guest, part_of, only_seen, longer, joined_part, joined_parts}
use Rattle.proc_table.specs.Views.{seen, is_out, IsLent, one_more, new_pass, joined, gone}
use Rattle.proc_table.specs.Agrees.{States, state, Sits, FitsPart, FitsSeat, SlotAgrees, Agrees}
use Rattle.proc_table.specs.Moves.{Splits, Joins}
use Rattle.proc_history.proofs.Prefixes.{prefix_self, prefix_shorter, prefix_both}
use Rattle.proc_history.proofs.Entries.{own_between}
use Rattle.proc_table.proofs.Seats.{Reseats, reseats, Leaves, leaves, Comes, comes, one_view}
use Rattle.proc_table.proofs.LentLemmas.{lent_first, lent_more, lent_still}
use Rattle.proc_table.proofs.Turns.{Change, slot_changes, stays, turns}
use Rattle.proc_table.proofs.SlotTurns.{turns_nowhere}

-- what the longer of two beginnings of one list is
pub record Longer (xs ys h z : List HistoryEntry) : Type 0 where
  pub first : IsPrefix xs z
  pub second : IsPrefix ys z
  pub begins : IsPrefix z h

pub is_longer : (xs ys h : List HistoryEntry) → IsPrefix xs h → IsPrefix ys h → Longer xs ys h (longer xs ys)
is_longer xs ys h p q = go (nat_lt (length xs) (length ys)) refl
  where
    go : (b : Bool) → nat_lt (length xs) (length ys) ≡ b → Longer xs ys h (if b then ys else xs)
    go true e = let lt : length xs < length ys = grind (arith, nat_tests) in record { first = prefix_shorter xs ys h p q (omega arith); second = prefix_self ys; begins = q }
    go false e = let le : length ys ≤ length xs = grind (arith, nat_tests) in record { first = prefix_self xs; second = prefix_shorter ys xs h q p le; begins = p }

pub length_joined : (xs ys : List Part) → length (joined_parts xs ys) ≡ length xs
length_joined [] ys = refl
length_joined (x ∷ xs) [] = refl
length_joined (x ∷ xs) (y ∷ ys) = let h = length_joined xs ys in omega arith

pub joined_at : (xs ys : List Part) (p : ℕ) → length xs ≡ length ys → part_of (joined_parts xs ys) p ≡ joined_part (part_of xs p) (part_of ys p)
joined_at [] [] p e = refl
joined_at [] (y ∷ ys) p e = absurd (omega arith)
joined_at (x ∷ xs) [] p e = absurd (omega arith)
joined_at (x ∷ xs) (y ∷ ys) zero e = refl
joined_at (x ∷ xs) (y ∷ ys) (suc p) e = joined_at xs ys p (omega arith)

pub length_map : {A B : Type 0} (f : A → B) (xs : List A) → length (map f xs) ≡ length xs
length_map f [] = refl
length_map f (x ∷ xs) = let h = length_map f xs in omega arith

pub only_seen_at : (xs : List Part) (p : ℕ) → part_of (map only_seen xs) p ≡ only_seen (part_of xs p)
only_seen_at [] p = refl
only_seen_at (x ∷ xs) zero = refl
only_seen_at (x ∷ xs) (suc p) = only_seen_at xs p

-- a pass that has nothing out comes, with a number not given before, which the handler has lent
comes_agree : (s t : States) (n : ℕ) (w : View) (a : Agrees s) → Comes s t n w → s.words ≡ t.words → s.homes ≡ t.homes
    → FitsSeat a.passes w → ((j : ℕ) (u : View) → Sits s j u → u.number ≢ w.number)
    → w.number ≢ 0 → ((j : ℕ) (u : View) → Sits s j u → u.number ≡ 0 → IsLent u w.number)
    → ((p : ℕ) → is_out w p ≡ false)
    → ((p : ℕ) → FitsPart (a.history p) (slice_index s.words p) (get_elem? s.homes p) w.number w.guest p (part_of w.parts p))
    → Agrees t
comes_agree s t n w a c words homes seat apart new lent none_out parts = record {
  history = a.history;
  passes = a.passes;
  words = ap (λ (l : List ℕ). length l) (sym words) ∙ a.words;
  homes = ap (λ (l : List (Option Value)). length l) (sym homes) ∙ a.homes;
  each = λ p. let here = a.each p in record {
    legal = here.legal;
    home = λ inside free. ap (λ l. get_elem? l p) (sym homes) ∙ here.home inside (ap (λ l. slice_index l p) words ∙ free);
    taken = λ busy. let o = here.taken (λ e. busy (ap (λ l. slice_index l p) (sym words) ∙ e)) in (o.0, o.1, c.forth o.0 o.1 o.2, o.3);
    alone = λ i j u z su sz ou oz. ⊎_elim
        (λ at. absurd (true≢false (sym ou ∙ (ap (λ (y : View). is_out y p) (sym at.1) ∙ none_out p))))
        (λ old. ⊎_elim
        (λ at. absurd (true≢false (sym oz ∙ (ap (λ (y : View). is_out y p) (sym at.1) ∙ none_out p))))
        (λ too. here.alone i j u z old too ou oz)
        (c.back j z sz))
        (c.back i u su);
    parts = λ i u su. subst (λ l. FitsPart (a.history p) (slice_index l p) (get_elem? t.homes p) u.number u.guest p (part_of u.parts p)) words
        (subst (λ l. FitsPart (a.history p) (slice_index s.words p) (get_elem? l p) u.number u.guest p (part_of u.parts p)) homes
        (⊎_elim
        (λ at. subst (λ (y : View). FitsPart (a.history p) (slice_index s.words p) (get_elem? s.homes p) y.number y.guest p (part_of y.parts p)) at.1 (parts p))
        (λ old. here.parts i u old)
        (c.back i u su)));
    whole = let o = here.whole in (o.0, o.1, c.forth o.0 o.1 o.2, o.3);
  };
  given = a.given;
  seats = λ i u su. ⊎_elim (λ at. subst (FitsSeat a.passes) at.1 seat) (λ old. a.seats i u old) (c.back i u su);
  apart = λ i j u z su sz e. ⊎_elim
      (λ at. ⊎_elim
      (λ too. at.0 ∙ sym too.0)
      (λ old. absurd (apart j z old (sym e ∙ ap (λ (y : View). y.number) (sym at.1))))
      (c.back j z sz))
      (λ old. ⊎_elim
      (λ at. absurd (apart i u old (e ∙ ap (λ (y : View). y.number) (sym at.1))))
      (λ too. a.apart i j u z old too e)
      (c.back j z sz))
      (c.back i u su);
  lent = λ i j u z su sz handler pass. ⊎_elim
      (λ at. absurd (new (ap (λ (y : View). y.number) at.1 ∙ handler)))
      (λ old. ⊎_elim
      (λ at. subst (IsLent u) (ap (λ (y : View). y.number) at.1) (lent i u old handler))
      (λ too. a.lent i j u z old too handler pass)
      (c.back j z sz))
      (c.back i u su);
  settled = λ i p n u su handler strange. ⊎_elim
      (λ at. absurd (new (ap (λ (y : View). y.number) at.1 ∙ handler)))
      (λ old. a.settled i p n u old handler strange)
      (c.back i u su);
}

-- a seat that has nothing out is spent, where another has seen as much
leaves_agree : (s t : States) (j : ℕ) (w : View) (a : Agrees s) → Leaves s t j w → s.words ≡ t.words → s.homes ≡ t.homes
    → (i : ℕ) (v : View) → i ≢ j → Sits s i v → ((p : ℕ) → is_out w p ≡ false) → ((p : ℕ) → IsPrefix (seen w p) (seen v p)) → Agrees t
leaves_agree s t j w a c words homes i v ne sits none_out more = record {
  history = a.history;
  passes = a.passes;
  words = ap (λ (l : List ℕ). length l) (sym words) ∙ a.words;
  homes = ap (λ (l : List (Option Value)). length l) (sym homes) ∙ a.homes;
  each = λ p. let here = a.each p in record {
    legal = here.legal;
    home = λ inside free. ap (λ l. get_elem? l p) (sym homes) ∙ here.home inside (ap (λ l. slice_index l p) words ∙ free);
    taken = λ busy. let o = here.taken (λ e. busy (ap (λ l. slice_index l p) (sym words) ∙ e)) in
        (o.0, o.1, c.forth o.0 o.1 (λ e. true≢false (sym o.3 ∙ (ap (λ (y : View). is_out y p) (one_view s j o.1 w (subst (λ k. Sits s k o.1) e o.2) c.before) ∙ none_out p))) o.2, o.3);
    alone = λ k l u z su sz ou oz. here.alone k l u z (c.back k u su).1 (c.back l z sz).1 ou oz;
    parts = λ k u su. subst (λ l. FitsPart (a.history p) (slice_index l p) (get_elem? t.homes p) u.number u.guest p (part_of u.parts p)) words
        (subst (λ l. FitsPart (a.history p) (slice_index s.words p) (get_elem? l p) u.number u.guest p (part_of u.parts p)) homes (here.parts k u (c.back k u su).1));
    whole = let o = here.whole in dite (ℕ_discrete o.0 j)
        (λ e. (
          i,
          v,
          c.forth i v ne sits,
          prefix_both (seen v p) (a.history p) (here.parts i v sits).begins
              (subst (λ g. IsPrefix g (seen v p)) (ap (λ (y : View). seen y p) (one_view s j w o.1 c.before (subst (λ k. Sits s k o.1) e o.2)) ∙ o.3) (more p)),
        ))
        (λ other. (o.0, o.1, c.forth o.0 o.1 other o.2, o.3));
  };
  given = a.given;
  seats = λ k u su. a.seats k u (c.back k u su).1;
  apart = λ k l u z su sz e. a.apart k l u z (c.back k u su).1 (c.back l z sz).1 e;
  lent = λ k l u z su sz. a.lent k l u z (c.back k u su).1 (c.back l z sz).1;
  settled = λ k p n u su. a.settled k p n u (c.back k u su).1;
}

-- the new pass fits: it has seen as much, and no entry is its own
new_part : (h : List HistoryEntry) (word : ℕ) (home : Option (Option Value)) (number : ℕ) (p : ℕ) (x : Part) → IsPrefix x.seen h → own number h ≡ []
    → FitsPart h word home number None p (only_seen x)
new_part h word home number p x begins strange = record {
  begins = begins;
  own_seen = own_between number [] x.seen h (x.seen, refl) begins (sym strange) ∙ strange;
  own_all = strange;
  all_where_out = λ o. absurd (true≢false (sym o));
  word_where_out = λ o. absurd (true≢false (sym o));
  laid = λ l. absurd (true≢false (sym l));
  held = λ g is. absurd (cc);
  met_first = λ g is. absurd (cc);
  met_second = λ g is. absurd (cc);
  met_own = λ g is. absurd (cc);
  met_settled = λ g is. absurd (cc);
}

pub splits_agree : (s t : States) → Splits s t → Agrees s → Agrees t
unfolding turns turns_nowhere
splits_agree s t m a =
    let v = m.v in
    let one = one_more v in
    let new = new_pass v in
    let fits = a.seats m.i v m.sits in
    let count : v.count ≡ a.passes = fits.count m.handler in
    let more = a.passes + 1 in
    let more' = v.count + 1 in
    let u : States = state s.words s.homes (set s.views m.i one) in
    let r : Reseats s u m.i v one = reseats s s.words s.homes m.i v one m.sits m.sits.1 in
    let b : Agrees u = turns_nowhere s m.i v one a more m.sits m.sits.1 refl refl (λ g is. is) (λ z. omega arith) (omega arith) (inr m.handler)
    (record {
      lent = λ handler j y ne sy pass. lent_more more' y.number v.lent (a.lent m.i j v y m.sits sy m.handler pass);
      settled = λ handler p n strange. a.settled m.i p n v m.sits m.handler (λ c. strange (lent_more more' n v.lent c));
    }) in
    let c : Comes u (state s.words s.homes (set s.views m.i one ++ new ∷ [])) (length u.views) new = comes u s.words s.homes new refl in
    subst Agrees (sym m.is) (comes_agree u (state s.words s.homes (set s.views m.i one ++ new ∷ [])) (length u.views) new b c refl refl
    (record {
      number = omega arith;
      count = λ z. absurd (omega arith);
      parts = length_map only_seen v.parts ∙ fits.parts;
    })
    (λ j y sy e. ⊎_elim
    (λ at. let z : one.number ≡ 0 = m.handler in let f : one.number ≡ v.count + 1 = ap (λ (q : View). q.number) at.1 ∙ e in omega arith)
    (λ old. let n = (a.seats j y old.1).number in omega arith)
    (r.back j y sy))
    (λ z. absurd (omega arith))
    (λ j y sy zero. ⊎_elim
    (λ at. subst (λ (q : View). IsLent q more') at.1 (lent_first more' v.lent))
    (λ old. absurd (old.0 (a.apart j m.i y v old.1 m.sits (zero ∙ sym m.handler))))
    (r.back j y sy))
    (λ p. ap (λ (x : Part). x.out) (only_seen_at v.parts p))
    (λ p. subst (λ (x : Part). FitsPart (a.history p) (slice_index s.words p) (get_elem? s.homes p) (v.count + 1) None p x) (sym (only_seen_at v.parts p))
    (new_part (a.history p) (slice_index s.words p) (get_elem? s.homes p) (v.count + 1) p (part_of v.parts p) ((a.each p).parts m.i v m.sits).begins (a.given p (v.count + 1) (omega arith)))))

-- the slot after the first seat took over what the second has seen
joins_at : (s : States) (h : List HistoryEntry) (p i j : ℕ) (v w : View) → Sits s i v → Sits s j w → SlotAgrees s h p
    → (v.number ≡ 0 → (n : ℕ) → ¬ IsLent v n → own n h ≡ own n (seen v p))
    → Change s h h p i v (Some (record { number = w.number; lent = v.lent; before = v.parts; parts = w.parts }))
    (joined_part (part_of v.parts p) (part_of w.parts p)) (slice_index s.words p) (get_elem? s.homes p)
joins_at s h p i j v w sv sw a settled =
    let x = part_of v.parts p in
    let y = part_of w.parts p in
    let f = a.parts i v sv in
    let g = a.parts j w sw in
    let z = longer x.seen y.seen in
    let l = is_longer x.seen y.seen h f.begins g.begins in
    let where_all : x.seen ≡ h → z ≡ h = λ all. prefix_both z h l.begins (subst (λ q. IsPrefix q z) all l.first) in
    let same = stays s h p i v v.guest sv (λ q is. is) a in
    record {
      longer = prefix_self h;
      legal = a.legal;
      strangers = λ n ne. refl;
      fits = record {
        begins = l.begins;
        own_seen = own_between v.number x.seen z h l.first l.begins (f.own_seen ∙ sym f.own_all) ∙ f.own_all;
        own_all = f.own_all;
        all_where_out = λ o. where_all (f.all_where_out o);
        word_where_out = f.word_where_out;
        laid = f.laid;
        held = λ q is o. subst (λ (k : Guest). z ≡ (part_of k.before p).seen) (guest_is is) (where_all (f.all_where_out o) ∙ sym (f.all_where_out o));
        met_first = λ q is. subst (λ (k : Guest). IsPrefix (part_of k.before p).seen z) (guest_is is) l.first;
        met_second = λ q is. subst (λ (k : Guest). IsPrefix (part_of k.parts p).seen z) (guest_is is) l.second;
        met_own = λ q is. subst (λ (k : Guest). own k.number z ≡ (part_of k.parts p).mine) (guest_is is)
            (own_between w.number y.seen z h l.second l.begins (g.own_seen ∙ sym g.own_all) ∙ g.own_all);
        met_settled = λ q is handler. subst (λ (k : Guest). (n : ℕ) → ¬ Contains k.lent n → own n z ≡ own n (part_of k.before p).seen) (guest_is is)
            (λ n strange. own_between n x.seen z h l.first l.begins (sym (settled handler n strange)) ∙ settled handler n strange);
      };
      others = same.others;
      home = same.home;
      taken = same.taken;
      whole = ⊎_elim (λ all. inl (where_all all)) (λ o. inr o) same.whole;
    }
  where
    guest_is : {g k : Guest} → Some g ≡ Some k → g ≡ k
    guest_is e = cc

-- the first seat's view after a join, as long as the second sits, and so is lent
abbrev before_leaving : View → View → View
before_leaving v w = record (joined v w) { lent = v.lent }

-- What the seats know of the parts when the first has taken over what the second has seen: the entries of those that aren't
-- lent, and of the second.
record TakenOver (s : States) (a : Agrees s) (v w : View) : Type 0 where
  pub at : (p : ℕ) → part_of (joined v w).parts p ≡ joined_part (part_of v.parts p) (part_of w.parts p)
  pub more : (p : ℕ) → IsPrefix (seen w p) (seen (joined v w) p)
  pub settled : v.number ≡ 0 → (p n : ℕ) → ¬ IsLent v n → own n (a.history p) ≡ own n (seen (joined v w) p)
  pub second : (p : ℕ) → own w.number (a.history p) ≡ own w.number (seen (joined v w) p)

taken_over : (s : States) (a : Agrees s) (i j : ℕ) (v w : View) → Sits s i v → Sits s j w → TakenOver s a v w
taken_over s a i j v w sv sw =
    let at : (p : ℕ) → part_of (joined v w).parts p ≡ joined_part (part_of v.parts p) (part_of w.parts p) =
    λ p. joined_at v.parts w.parts p ((a.seats i v sv).parts ∙ sym (a.seats j w sw).parts) in
    let long : (p : ℕ) → Longer (seen v p) (seen w p) (a.history p) (seen (joined v w) p) = λ p.
    subst (λ (x : Part). Longer (seen v p) (seen w p) (a.history p) x.seen) (sym (at p))
    (is_longer (seen v p) (seen w p) (a.history p) ((a.each p).parts i v sv).begins ((a.each p).parts j w sw).begins) in
    record {
      at = at;
      more = λ p. (long p).second;
      settled = λ handler p n strange.
          sym (own_between n (seen v p) (seen (joined v w) p) (a.history p) (long p).first (long p).begins (sym (a.settled i p n v sv handler strange)));
      second = λ p. let g = (a.each p).parts j w sw in
          sym (own_between w.number (seen w p) (seen (joined v w) p) (a.history p) (long p).second (long p).begins (g.own_seen ∙ sym g.own_all));
    }

-- a seat's view is put there twice
set_again : {A : Type 0} (l : List A) (i j : ℕ) (a b c : A) → j ≢ i → set (set (set l i a) j c) i b ≡ set (set l i b) j c
set_again [] i j a b c ne = refl
set_again (x ∷ xs) zero zero a b c ne = absurd (ne refl)
set_again (x ∷ xs) zero (suc j) a b c ne = refl
set_again (x ∷ xs) (suc i) zero a b c ne = ap (λ l. c ∷ l) (set_twice xs i a b)
  where
    set_twice : {A : Type 0} (l : List A) (i : ℕ) (a b : A) → set (set l i a) i b ≡ set l i b
    set_twice [] i a b = refl
    set_twice (x ∷ xs) zero a b = refl
    set_twice (x ∷ xs) (suc i) a b = ap (λ l. x ∷ l) (set_twice xs i a b)
set_again (x ∷ xs) (suc i) (suc j) a b c ne = ap (λ l. x ∷ l) (set_again xs i j a b c (λ e. ne (ap suc e)))

pub joins_agree : (s t : States) → Joins s t → Agrees s → Agrees t
unfolding turns turns_nowhere leaves_agree
joins_agree s t m a =
    let v = m.v in
    let w = m.w in
    let still = before_leaving v w in
    let both = joined v w in
    let u : States = state s.words s.homes (set s.views m.i still) in
    let r : Reseats s u m.i v still = reseats s s.words s.homes m.i v still m.first m.first.1 in
    let fv = a.seats m.i v m.first in
    let over = taken_over s a m.i m.j v w m.first m.second in
    let b : Agrees u = turns s u m.i v still a a.passes a.history r
    (record {
      number = refl;
      count = fv.count;
      parts = length_joined v.parts w.parts ∙ fv.parts;
      words = a.words;
      homes = a.homes;
      grows = omega arith;
      counted = inl refl;
    })
    (record { lent = λ handler j y ne sy pass. a.lent m.i j v y m.first sy handler pass; settled = over.settled })
    (λ p. slot_changes s u (a.history p) (a.history p) p m.i v still still.guest (joined_part (part_of v.parts p) (part_of w.parts p)) (slice_index s.words p) (get_elem? s.homes p)
    r refl refl (over.at p) refl refl (λ j y ne sy e. ne (a.apart j m.i y v sy m.first e)) (a.each p)
    (joins_at s (a.history p) p m.i m.j v w m.first m.second (a.each p) (λ handler n strange. a.settled m.i p n v m.first handler strange)))
    (λ p z ne. refl) in
    let there : Sits u m.j w = r.forth m.j w m.two m.second in
    let left : States = state s.words s.homes (set (set s.views m.i still) m.j gone) in
    let c : Leaves u left m.j w = leaves u s.words s.homes m.j w there in
    let ne : m.i ≢ m.j = λ e. m.two (sym e) in
    let d : Agrees left = leaves_agree u left m.j w b c refl refl m.i still ne r.now m.none_out over.more in
    let sits : Sits left m.i still = c.forth m.i still ne r.now in
    let e : Agrees (state s.words s.homes (set (set (set s.views m.i still) m.j gone) m.i both)) =
    turns_nowhere left m.i still both d a.passes sits sits.1 refl refl (λ g is. is) fv.count (omega arith) (inl refl)
    (record {
      lent = λ handler k y other sy pass.
          let was = c.back k y sy in
          ⊎_elim (λ at. absurd (other at.0))
          (λ old. lent_still w.number y.number v.lent (λ same. was.0 (a.apart k m.j y w old.1 m.second same)) (a.lent m.i k v y m.first old.1 handler pass))
          (r.back k y was.1);
      settled = λ handler p n strange. dite (ℕ_discrete n w.number)
          (λ same. subst (λ z. own z (a.history p) ≡ own z (seen both p)) (sym same) (over.second p))
          (λ other. over.settled handler p n (λ lent. strange (lent_still w.number n v.lent other lent)));
    }) in
    subst Agrees (sym (m.is ∙ ap (λ l. state s.words s.homes l) (sym (set_again s.views m.i m.j still both gone m.two)))) e

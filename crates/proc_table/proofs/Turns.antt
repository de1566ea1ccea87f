-- One seat's view changes, and with it words, homes and histories: what the change owes so that all agree again.
use Rattle.std.proofs.Common.{◌≡◌, ◌≢◌, ◌⊎◌, ℕ, ◌<◌, ◌≤◌, Bool, true, false, List, length, slice_index, refl, ap, sym, subst, ◌∙◌, inl, inr, ⊎_elim, arith, true≢false, Some}
use Rattle.std.proofs.Common as std
use Rattle.std.specs.List.{Contains}
use mathlib.Core.Option.{Option, some}
use mathlib.Core.List.{IsPrefix}
use native.Mathlib.Decide.{ℕ_discrete}
use mathlib.Core.Logic.{dite}
use lib.ListN.{get_elem?}
use Rattle.proc_table.specs.declared.view.View.{View}
use Rattle.proc_history.specs.declared.value.Value.{Value}
use Rattle.proc_history.specs.Events.{HistoryEntry, own}
use Rattle.proc_table.specs.Parts.{Part, Guest, part_of}
use Rattle.proc_history.specs.Histories.{replay, IsLegal}
use Rattle.proc_table.specs.Views.{seen, is_out, IsLent}
use Rattle.proc_table.specs.Agrees.{slots, States, Sits, FitsPart, FitsSeat, SlotAgrees, Agrees}
use Rattle.proc_history.proofs.Prefixes.{prefix_self, prefix_trans}
use Rattle.proc_table.proofs.Seats.{Reseats, one_view}

-- What changes at the slot p, where the seat i had the view v: its history h is now k; the seat's part is x, the word n and
-- the home m. What other seats have out stays as it is.
pub record Change (s : States) (h k : List HistoryEntry) (p i : ℕ) (v : View) (guest : std.Option Guest) (x : Part) (n : ℕ) (m : Option (Option Value)) : Type 0 where
  pub longer : IsPrefix h k
  pub legal : IsLegal k
  pub strangers : (z : ℕ) → z ≢ v.number → own z k ≡ own z h
  pub fits : FitsPart k n m v.number guest p x
  pub others : (j : ℕ) (u : View) → j ≢ i → Sits s j u → is_out u p ≡ true → (x.out ≡ false) × (k ≡ h) × (n ≡ slice_index s.words p) × (m ≡ get_elem? s.homes p)
  pub home : p < slots → n ≡ 0 → m ≡ some (some (replay k))
  pub taken : n ≢ 0 → (x.out ≡ true) ⊎ ((j : ℕ) × (u : View) × (j ≢ i) × Sits s j u × (is_out u p ≡ true))
  pub whole : (x.seen ≡ k) ⊎ ((j : ℕ) × (u : View) × (j ≢ i) × Sits s j u × (seen u p ≡ k))

-- where another seat stands, its part fits as before
other_part : (s : States) (h k : List HistoryEntry) (p i : ℕ) (v : View) (guest : std.Option Guest) (x : Part) (n : ℕ) (m : Option (Option Value))
    → Change s h k p i v guest x n m → (j : ℕ) (u : View) → j ≢ i → u.number ≢ v.number → Sits s j u
    → FitsPart h (slice_index s.words p) (get_elem? s.homes p) u.number u.guest p (part_of u.parts p) → FitsPart k n m u.number u.guest p (part_of u.parts p)
other_part s h k p i v guest x n m c j u ne number sits f = record {
  begins = prefix_trans _ h k f.begins c.longer;
  own_seen = f.own_seen;
  own_all = c.strangers u.number number ∙ f.own_all;
  all_where_out = λ out. f.all_where_out out ∙ sym (c.others j u ne sits out).1;
  word_where_out = λ out. (c.others j u ne sits out).2 ∙ f.word_where_out out;
  laid = λ l. let was = f.laid l in (was.0, (was.1.0, (c.others j u ne sits was.0).3 ∙ was.1.1));
  held = f.held;
  met_first = f.met_first;
  met_second = f.met_second;
  met_own = f.met_own;
  met_settled = f.met_settled;
}

-- the slot agrees again
pub slot_changes : (s t : States) (h k : List HistoryEntry) (p i : ℕ) (v w : View) (guest : std.Option Guest) (x : Part) (n : ℕ) (m : Option (Option Value))
    → Reseats s t i v w → w.number ≡ v.number → w.guest ≡ guest → part_of w.parts p ≡ x → slice_index t.words p ≡ n → get_elem? t.homes p ≡ m
    → ((j : ℕ) (u : View) → j ≢ i → Sits s j u → u.number ≢ v.number)
    → SlotAgrees s h p → Change s h k p i v guest x n m → SlotAgrees t k p
slot_changes s t h k p i v w guest x n m r number guest_is part_is word_is home_is apart a c =
    let out_now : is_out w p ≡ x.out = ap (λ (y : Part). y.out) part_is in record {
      legal = c.legal;
      home = λ inside free. home_is ∙ c.home inside (sym word_is ∙ free);
      taken = λ busy. ⊎_elim
          (λ out. (i, w, r.now, out_now ∙ out))
          (λ o. (o.0, o.1, r.forth o.0 o.1 o.2 o.3, o.4))
          (c.taken (λ e. busy (word_is ∙ e)));
      alone = λ j l u z su sz ou oz. ⊎_elim
          (λ at. ⊎_elim
          (λ too. at.0 ∙ sym too.0)
          (λ else. absurd (true≢false (sym ou ∙ (ap (λ (y : View). is_out y p) (sym at.1) ∙ (out_now ∙ (c.others l z else.0 else.1 oz).0)))))
          (r.back l z sz))
          (λ else. ⊎_elim
          (λ at. absurd (true≢false (sym oz ∙ (ap (λ (y : View). is_out y p) (sym at.1) ∙ (out_now ∙ (c.others j u else.0 else.1 ou).0)))))
          (λ too. a.alone j l u z else.1 too.1 ou oz)
          (r.back l z sz))
          (r.back j u su);
      parts = λ j u su. ⊎_elim
          (λ at. subst (λ (y : View). FitsPart k (slice_index t.words p) (get_elem? t.homes p) y.number y.guest p (part_of y.parts p)) at.1
          (rw (number, guest_is, part_is, word_is, home_is) c.fits))
          (λ else. rw (word_is, home_is) (other_part s h k p i v guest x n m c j u else.0 (apart j u else.0 else.1) else.1 (a.parts j u else.1)))
          (r.back j u su);
      whole = ⊎_elim
          (λ all. (i, w, r.now, ap (λ (y : Part). y.seen) part_is ∙ all))
          (λ o. (o.0, o.1, r.forth o.0 o.1 o.2 o.3, o.4))
          c.whole;
    }

-- a slot at which nothing changes, but for the guest
pub stays : (s : States) (h : List HistoryEntry) (p i : ℕ) (v : View) (guest : std.Option Guest) → Sits s i v → ((g : Guest) → guest ≡ Some g → v.guest ≡ Some g)
    → SlotAgrees s h p → Change s h h p i v guest (part_of v.parts p) (slice_index s.words p) (get_elem? s.homes p)
stays s h p i v guest sits same a =
    let f = a.parts i v sits in record {
      longer = prefix_self h;
      legal = a.legal;
      strangers = λ z ne. refl;
      fits = record {
        begins = f.begins;
        own_seen = f.own_seen;
        own_all = f.own_all;
        all_where_out = f.all_where_out;
        word_where_out = f.word_where_out;
        laid = f.laid;
        held = λ g is. f.held g (same g is);
        met_first = λ g is. f.met_first g (same g is);
        met_second = λ g is. f.met_second g (same g is);
        met_own = λ g is. f.met_own g (same g is);
        met_settled = λ g is. f.met_settled g (same g is);
      };
      others = λ j u ne su ou. (not_out (is_out v p) (λ out. ne (a.alone j i u v su sits ou out)), refl, refl, refl);
      home = a.home;
      taken = λ busy. let o = a.taken busy in dite (ℕ_discrete o.0 i)
          (λ e. inl (ap (λ (y : View). is_out y p) (one_view s i v o.1 sits (subst (λ j. Sits s j o.1) e o.2)) ∙ o.3))
          (λ ne. inr (o.0, o.1, ne, o.2, o.3));
      whole = let o = a.whole in dite (ℕ_discrete o.0 i)
          (λ e. inl (ap (λ (y : View). seen y p) (one_view s i v o.1 sits (subst (λ j. Sits s j o.1) e o.2)) ∙ o.3))
          (λ ne. inr (o.0, o.1, ne, o.2, o.3));
    }
  where
    not_out : (b : Bool) → (b ≡ true → ⊥) → b ≡ false
    not_out true ne = absurd (ne refl)
    not_out false ne = refl

-- What a change of a seat owes beside its slots: its number and count fit.
pub record Passes (s t : States) (passes more i : ℕ) (v w : View) : Type 0 where
  pub number : w.number ≡ v.number
  pub count : w.number ≡ 0 → w.count ≡ more
  pub parts : length w.parts ≡ slots
  pub words : length t.words ≡ slots
  pub homes : length t.homes ≡ slots
  pub grows : passes ≤ more
  pub counted : (passes ≡ more) ⊎ (v.number ≡ 0)

-- What the seat owes where it is the handler's: it has lent each pass, and has seen all entries but theirs.
pub record Lends (s : States) (history : ℕ → List HistoryEntry) (i : ℕ) (w : View) : Type 0 where
  pub lent : w.number ≡ 0 → (j : ℕ) (u : View) → j ≢ i → Sits s j u → u.number ≢ 0 → IsLent w u.number
  pub settled : w.number ≡ 0 → (p n : ℕ) → ¬ IsLent w n → own n (history p) ≡ own n (seen w p)

-- it does where it did, and nothing that bears on it changed
pub still_lends : (s : States) (i : ℕ) (v w : View) (a : Agrees s) → Sits s i v → w.number ≡ v.number → w.lent ≡ v.lent → w.parts ≡ v.parts → Lends s a.history i w
still_lends s i v w a sits number lent parts = record {
  lent = λ handler j u ne su pass. subst (λ ns. Contains ns u.number) (sym lent) (a.lent i j v u sits su (sym number ∙ handler) pass);
  settled = λ handler p n strange. a.settled i p n v sits (sym number ∙ handler) (λ c. strange (subst (λ ns. Contains ns n) (sym lent) c))
      ∙ ap (λ (ps : List Part). own n (part_of ps p).seen) (sym parts);
}

-- all agree again
unfoldable pub turns : (s t : States) (i : ℕ) (v w : View) (a : Agrees s) (more : ℕ) (history : ℕ → List HistoryEntry)
    → Reseats s t i v w → Passes s t a.passes more i v w → Lends s history i w
    → ((p : ℕ) → SlotAgrees t (history p) p)
    → ((p z : ℕ) → z ≢ v.number → own z (history p) ≡ own z (a.history p))
    → Agrees t
turns s t i v w a more history r f lends each strangers = record {
  history = history;
  passes = more;
  words = f.words;
  homes = f.homes;
  each = each;
  given = λ p z lt. let n = (a.seats i v r.before).number in let m = f.grows in strangers p z (λ e. omega arith) ∙ a.given p z (omega arith);
  seats = λ j u su. ⊎_elim
      (λ at. subst (FitsSeat more) at.1 (record {
        number = let n = (a.seats i v r.before).number in let m = f.grows in let e = f.number in omega arith;
        count = f.count;
        parts = f.parts;
      }))
      (λ else. let was = a.seats j u else.1 in record {
        number = let n = was.number in let m = f.grows in omega arith;
        count = λ z. ⊎_elim (λ e. was.count z ∙ e) (λ h. absurd (else.0 (a.apart j i u v else.1 r.before (z ∙ sym h)))) f.counted;
        parts = was.parts;
      })
      (r.back j u su);
  apart = λ j l u z su sz e. ⊎_elim
      (λ at. ⊎_elim
      (λ too. at.0 ∙ sym too.0)
      (λ else. absurd (else.0 (a.apart l i z v else.1 r.before (sym e ∙ (sym (ap (λ (y : View). y.number) at.1) ∙ f.number)))))
      (r.back l z sz))
      (λ else. ⊎_elim
      (λ at. absurd (else.0 (a.apart j i u v else.1 r.before (e ∙ (sym (ap (λ (y : View). y.number) at.1) ∙ f.number)))))
      (λ too. a.apart j l u z else.1 too.1 e)
      (r.back l z sz))
      (r.back j u su);
  lent = λ j l u z su sz handler pass. ⊎_elim
      (λ at. ⊎_elim
      (λ too. absurd (pass (ap (λ (y : View). y.number) (sym too.1) ∙ (ap (λ (y : View). y.number) at.1 ∙ handler))))
      (λ else. subst (λ (y : View). IsLent y z.number) at.1 (lends.lent (ap (λ (y : View). y.number) at.1 ∙ handler) l z else.0 else.1 pass))
      (r.back l z sz))
      (λ else. ⊎_elim
      (λ at. subst (IsLent u) (sym f.number ∙ ap (λ (y : View). y.number) at.1)
      (a.lent j i u v else.1 r.before handler (λ e. pass (ap (λ (y : View). y.number) (sym at.1) ∙ (f.number ∙ e)))))
      (λ too. a.lent j l u z else.1 too.1 handler pass)
      (r.back l z sz))
      (r.back j u su);
  settled = λ j p n u su handler strange. ⊎_elim
      (λ at. subst (λ (y : View). own n (history p) ≡ own n (seen y p)) at.1
      (lends.settled (ap (λ (y : View). y.number) at.1 ∙ handler) p n (λ c. strange (subst (λ (y : View). IsLent y n) at.1 c))))
      (λ else. strangers p n (λ e. strange (subst (IsLent u) (sym e) (a.lent j i u v else.1 r.before handler (λ z. else.0 (a.apart j i u v else.1 r.before (handler ∙ sym z))))))
      ∙ a.settled j p n u else.1 handler strange)
      (r.back j u su);
}

-- A change at one slot, or at none, leaves all agreeing.
use Rattle.std.proofs.Common.{◌≡◌, ◌≢◌, ◌⊎◌, ℕ, zero, suc, ◌==◌, ◌<◌, ◌≤◌, true, false, if◌then◌else◌, List, length, set, slice_index, refl, ap, sym, subst, ◌∙◌, inl, arith, length-set, get_or-set_same, get_or-set_other, Some, None}
use Rattle.std.proofs.lemmas.Bool.Decides.{nat_tests}
use mathlib.Core.Option.{Option, some}
use mathlib.Core.List.{IsPrefix}
use native.Mathlib.Decide.{ℕ_discrete}
use mathlib.Core.Logic.{dite}
use lib.ListN.{get_elem?}
use Rattle.atomic_table.proofs.Lists.{set_here, set_else}
use Rattle.proc_table.specs.declared.view.View.{View}
use Rattle.proc_history.specs.declared.value.Value.{Value}
use Rattle.proc_history.specs.Events.{HistoryEntry, own}
use Rattle.proc_table.specs.Parts.{Part, Guest, part_of, unseen}
use Rattle.proc_table.specs.Views.{seen, word_of, with_part}
use Rattle.proc_table.specs.Agrees.{slots, States, state, Sits, SlotAgrees, Agrees}
use Rattle.proc_table.specs.Moves.{IsHistory}
use Rattle.proc_history.proofs.Prefixes.{prefix_both}
use Rattle.proc_table.proofs.Seats.{Reseats, reseats}
use Rattle.proc_table.proofs.Turns.{Change, Lends, slot_changes, stays, turns}

-- one slot's history is another
pub put : (ℕ → List HistoryEntry) → ℕ → List HistoryEntry → ℕ → List HistoryEntry
put h p k q = if q == p then k else h q

pub put_here : (h : ℕ → List HistoryEntry) (p : ℕ) (k : List HistoryEntry) → put h p k p ≡ k
unfolding put
put_here h p k = let yes : (p == p) ≡ true = grind (arith, nat_tests) in rw yes refl

pub put_else : (h : ℕ → List HistoryEntry) (p : ℕ) (k : List HistoryEntry) (q : ℕ) → q ≢ p → put h p k q ≡ h q
unfolding put
put_else h p k q ne = let no : (q == p) ≡ false = grind (arith, nat_tests) in rw no refl

pub word_not_zero : (n : ℕ) → word_of n ≢ 0
word_not_zero zero e = omega arith
word_not_zero (suc n) e = omega arith

-- the longest seen is the history
pub history_is : (s : States) (a : Agrees s) (p : ℕ) (h : List HistoryEntry) → IsHistory s p h → a.history p ≡ h
history_is s a p h all =
    let long = (a.each p).whole in
    let top = all.whole in
    prefix_both (a.history p) h
    (subst (λ g. IsPrefix g h) long.3 (all.longest long.0 long.1 long.2))
    (subst (λ g. IsPrefix g (a.history p)) top.3 ((a.each p).parts top.0 top.1 top.2).begins)

-- A seat's part of one slot changes, with what its takes found and with the slot's history, word and home, and it has seen that
-- whole history: if this slot agrees, all do.
pub turns_at : (s : States) (i : ℕ) (v : View) (a : Agrees s) (p : ℕ) (k : List HistoryEntry) (x : Part) (f : List (ℕ × ℕ)) (n : ℕ) (m : Option Value)
    → Sits s i v → v.guest ≡ None → p < slots → x.seen ≡ k → Change s (a.history p) k p i v None x n (some m)
    → Agrees (state (set s.words p n) (set s.homes p m) (set s.views i (record (with_part v p x) { found = f })))
turns_at s i v a p k x f n m sits alone inside all c =
    let w = record (with_part v p x) { found = f } in
    let t = state (set s.words p n) (set s.homes p m) (set s.views i w) in
    let r : Reseats s t i v w = reseats s (set s.words p n) (set s.homes p m) i v w sits sits.1 in
    let fits = a.seats i v sits in
    let apart : (j : ℕ) (u : View) → j ≢ i → Sits s j u → u.number ≢ v.number = λ j u ne su e. ne (a.apart j i u v su sits e) in
    let words = a.words in
    let homes = a.homes in
    let parts = fits.parts in
    turns s t i v w a a.passes (put a.history p k) r
    (record {
      number = refl;
      count = fits.count;
      parts = length-set v.parts p x ∙ fits.parts;
      words = length-set s.words p n ∙ a.words;
      homes = length-set s.homes p m ∙ a.homes;
      grows = omega arith;
      counted = inl refl;
    })
    (record {
      lent = λ handler j u ne su pass. a.lent i j v u sits su handler pass;
      settled = λ handler q z strange. dite (ℕ_discrete q p)
          (λ e. subst (λ y. own z (put a.history p k y) ≡ own z (seen w y)) (sym e)
          (ap (own z) (put_here a.history p k ∙ (sym all ∙ ap (λ (y : Part). y.seen) (sym (get_or-set_same v.parts p x unseen (omega arith)))))))
          (λ other. ap (own z) (put_else a.history p k q other)
          ∙ (a.settled i q z v sits handler strange ∙ ap (λ (y : Part). own z y.seen) (sym (get_or-set_other v.parts p q x unseen other))));
    })
    (λ q. dite (ℕ_discrete q p)
    (λ e. subst (λ z. SlotAgrees t (put a.history p k z) z) (sym e) (rw (put_here a.history p k)
    (slot_changes s t (a.history p) k p i v w None x n (some m) r refl alone
    (get_or-set_same v.parts p x unseen (omega arith)) (get_or-set_same s.words p n 0 (omega arith)) (set_here s.homes p m (omega arith))
    apart (a.each p) c)))
    (λ ne. rw (put_else a.history p k q ne)
    (slot_changes s t (a.history q) (a.history q) q i v w None (part_of v.parts q) (slice_index s.words q) (get_elem? s.homes q) r refl alone
    (get_or-set_other v.parts p q x unseen ne) (get_or-set_other s.words p q n 0 ne) (set_else s.homes p q m ne)
    apart (a.each q) (stays s (a.history q) q i v None sits (λ g is. absurd (cc)) (a.each q)))))
    (λ q z ne. dite (ℕ_discrete q p)
    (λ e. subst (λ y. own z (put a.history p k y) ≡ own z (a.history y)) (sym e) (ap (own z) (put_here a.history p k) ∙ c.strangers z ne))
    (λ other. ap (own z) (put_else a.history p k q other)))

-- Words, homes and parts stay, and the seat's view differs in its count, what it lent or found, or its guest.
unfoldable pub turns_nowhere : (s : States) (i : ℕ) (v w : View) (a : Agrees s) (more : ℕ)
    → Sits s i v → w.spent ≡ false → w.number ≡ v.number → w.parts ≡ v.parts → ((g : Guest) → w.guest ≡ Some g → v.guest ≡ Some g)
    → (w.number ≡ 0 → w.count ≡ more) → a.passes ≤ more → (a.passes ≡ more) ⊎ (v.number ≡ 0) → Lends s a.history i w
    → Agrees (state s.words s.homes (set s.views i w))
turns_nowhere s i v w a more sits live number parts guest count grows counted lends =
    let t = state s.words s.homes (set s.views i w) in
    let r : Reseats s t i v w = reseats s s.words s.homes i v w sits live in
    let fits = a.seats i v sits in
    turns s t i v w a more a.history r
    (record {
      number = number;
      count = count;
      parts = ap (λ (l : List Part). length l) parts ∙ fits.parts;
      words = a.words;
      homes = a.homes;
      grows = grows;
      counted = counted;
    })
    lends
    (λ q. slot_changes s t (a.history q) (a.history q) q i v w w.guest (part_of v.parts q) (slice_index s.words q) (get_elem? s.homes q) r number refl
    (ap (λ l. part_of l q) parts) refl refl
    (λ j u ne su e. ne (a.apart j i u v su sits e)) (a.each q) (stays s (a.history q) q i v w.guest sits guest (a.each q)))
    (λ q z ne. refl)

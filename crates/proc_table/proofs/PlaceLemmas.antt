-- Each slot has a place of its own, so a change at the place of one is a change at no other.
use Rattle.std.proofs.Common.{◌≡◌, ◌≢◌, ℕ, zero, suc, ◌+◌, ◌*◌, ◌/◌, ◌%◌, ◌<◌, List, [], ◌∷◌, length, map, replicate, get_or, set, refl, ap, sym, subst, subst₂, ◌∙◌, arith, length-set}
use Rattle.std.proofs.lemmas.List.{set-get_or}
use native.Mathlib.Decide.{ℕ_discrete}
use mathlib.Core.Logic.{dite}
use mathlib.Core.Option.{Option, some}
use mathlib.Core.Option as option
use lib.ListN.{get_elem?}
use Rattle.atomic_table.proofs.Lists.{set_here, set_else}
use Rattle.proc_history.specs.Values.{nothing}
use Rattle.proc_table.specs.Agrees.{slots, start}
use Rattle.proc_table.specs.Places.{place_of, slot_at, LiesAt, LieApart, BySlot, ReachedBySlot, SlotsLieApart}
use Rattle.proc_table.proofs.Runs.{length_replicate, length_homes, home_replicate}
use Rattle.proc_table.proofs.Slots.{slots_is}

pub place_is : (p : ℕ) → place_of p ≡ p % 8 * 32 + p / 8 % 4 * 8 + p / 32
unfolding place_of
place_is p = refl

pub place_inside : (p : ℕ) → p < slots → place_of p < slots
place_inside p inside = let is = place_is p in let all = slots_is in omega arith

-- a slot is the one at its place
pub back_again : (p : ℕ) → p < slots → slot_at (place_of p) ≡ p
back_again p inside = let there = place_is p in let back = place_is (place_of p) in let all = slots_is in omega arith

neighbours : (p : ℕ) → suc p < slots → LieApart p (suc p)
neighbours p inside = let here = place_is p in let next = place_is (suc p) in let all = slots_is in grind arith

lowest : (p q : ℕ) → p < q → q < 32 → LieApart p q
lowest p q below low = let here = place_is p in let there = place_is q in grind arith

pub slots_lie_apart : SlotsLieApart
slots_lie_apart = record { inside = place_inside; own = back_again; neighbours = neighbours; lowest = lowest }

pub place_within : (p i : ℕ) → LiesAt p i → i < slots
place_within p i l = subst (λ n. n < slots) (sym l.is) (place_inside p l.inside)

pub slot_is : (p i : ℕ) → LiesAt p i → slot_at i ≡ p
slot_is p i l = ap slot_at l.is ∙ back_again p l.inside

at_another : (p q : ℕ) → p < slots → q < slots → q ≢ p → place_of q ≢ place_of p
at_another p q inside within ne e = ne (sym (back_again q within) ∙ (ap slot_at e ∙ back_again p inside))

module _ {A : Type 0} where
  get_or_is : (xs : List A) (i : ℕ) (d : A) → get_or xs i d ≡ option.get_or (get_elem? xs i) d
  get_or_is [] i d = refl
  get_or_is (x ∷ xs) zero d = refl
  get_or_is (x ∷ xs) (suc i) d = get_or_is xs i d

  pub at_place : (xs ys : List A) (p i : ℕ) → LiesAt p i → BySlot xs ys → get_elem? xs i ≡ get_elem? ys p
  at_place xs ys p i l b = ap (get_elem? xs) l.is ∙ b.each p l.inside

  pub value_at_place : (xs ys : List A) (p i : ℕ) (d : A) → LiesAt p i → BySlot xs ys → get_or xs i d ≡ get_or ys p d
  value_at_place xs ys p i d l b = get_or_is xs i d ∙ (ap (λ o. option.get_or o d) (at_place xs ys p i l b) ∙ sym (get_or_is ys p d))

  -- a change at the place of a slot is one at that slot
  pub by_slot_set : (xs ys : List A) (p i : ℕ) (a : A) → LiesAt p i → BySlot xs ys → BySlot (set xs i a) (set ys p a)
  by_slot_set xs ys p i a l b = subst (λ k. BySlot (set xs k a) (set ys p a)) (sym l.is) (record {
    long = length-set xs (place_of p) a ∙ b.long;
    as_long = length-set ys p a ∙ b.as_long;
    each = λ q within. dite (ℕ_discrete q p)
        (λ e. subst (λ k. get_elem? (set xs (place_of p) a) (place_of k) ≡ get_elem? (set ys p a) k) (sym e)
        (set_here xs (place_of p) a (subst (λ n. place_of p < n) (sym b.long) (place_inside p l.inside)) ∙ sym (set_here ys p a (subst (λ n. p < n) (sym b.as_long) l.inside))))
        (λ ne. set_else xs (place_of p) (place_of q) a (at_another p q l.inside within ne) ∙ (b.each q within ∙ sym (set_else ys p q a ne)));
  })

  -- where nothing changes
  pub by_slot_kept : (xs ys : List A) (i p : ℕ) (d : A) → BySlot xs ys → BySlot (set xs i (get_or xs i d)) (set ys p (get_or ys p d))
  by_slot_kept xs ys i p d b = subst₂ BySlot (sym (set-get_or xs i d)) (sym (set-get_or ys p d)) b

  -- where all are the same
  same_in_all : (xs : List A) (a : A) → length xs ≡ slots → ((p : ℕ) → p < slots → get_elem? xs p ≡ some a) → BySlot xs xs
  same_in_all xs a long all = record { long = long; as_long = long; each = λ p inside. all (place_of p) (place_inside p inside) ∙ sym (all p inside) }

  replicated : (n : ℕ) (a : A) (p : ℕ) → p < n → get_elem? (replicate n a) p ≡ some a
  replicated zero a p h = absurd (omega arith)
  replicated (suc n) a zero h = refl
  replicated (suc n) a (suc p) h = replicated n a p (omega arith)

pub start_by_slot : ReachedBySlot start
start_by_slot = record {
  words = replicate slots 0;
  homes = map some (replicate slots nothing);
  words_are = same_in_all _ 0 (length_replicate slots 0) (replicated slots 0);
  homes_are = same_in_all _ (some nothing) (length_homes slots nothing) (home_replicate slots nothing);
  reached = (0, refl);
}

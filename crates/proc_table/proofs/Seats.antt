-- What a change of one seat's view does to who sits where.
use Rattle.std.proofs.Common.{◌≡◌, ◌≢◌, ◌⊎◌, ℕ, zero, suc, ◌<◌, false, List, [], ◌∷◌, ◌++◌, length, set, refl, ap, sym, ◌∙◌, inl, inr, ⊎_elim, arith, true≢false}
use mathlib.Core.Option.{Option, some, some-injective, some-ne-none}
use lib.ListN.{get_elem?}
use Rattle.atomic_table.proofs.Lists.{at_set, set_here, set_else, at_longer, at_last}
use Rattle.proc_table.specs.declared.view.View.{View}
use Rattle.proc_history.specs.declared.value.Value.{Value}
use Rattle.proc_table.specs.Views.{gone}
use Rattle.proc_table.specs.Agrees.{States, state, Sits}

-- a seat that sits there has a place
pub has_place : {A : Type 0} (l : List A) (i : ℕ) (a : A) → get_elem? l i ≡ some a → i < length l
has_place [] i a e = absurd (some-ne-none a (sym e))
has_place (x ∷ xs) zero a e = omega arith
has_place (x ∷ xs) (suc i) a e = let h = has_place xs i a e in omega arith

pub at_end : {A : Type 0} (l : List A) (a b : A) (j : ℕ) → get_elem? (l ++ a ∷ []) j ≡ some b → ((j ≡ length l) × (a ≡ b)) ⊎ (get_elem? l j ≡ some b)
at_end [] a b zero e = inl (refl, some-injective a b e)
at_end [] a b (suc j) e = absurd (some-ne-none b (sym e))
at_end (x ∷ xs) a b zero e = inr e
at_end (x ∷ xs) a b (suc j) e = ⊎_elim (λ t. inl (let h = t.0 in omega arith, t.1)) (λ t. inr t) (at_end xs a b j e)

-- one seat has another view, and the others theirs
pub record Reseats (s t : States) (i : ℕ) (v w : View) : Type 0 where
  pub before : Sits s i v
  pub now : Sits t i w
  pub back : (j : ℕ) (u : View) → Sits t j u → ((j ≡ i) × (w ≡ u)) ⊎ ((j ≢ i) × Sits s j u)
  pub forth : (j : ℕ) (u : View) → j ≢ i → Sits s j u → Sits t j u

pub reseats : (s : States) (ws : List ℕ) (hs : List (Option Value)) (i : ℕ) (v w : View) → Sits s i v → w.spent ≡ false → Reseats s (state ws hs (set s.views i w)) i v w
reseats s ws hs i v w sits live = record {
  before = sits;
  now = (set_here s.views i w (has_place s.views i v sits.0), live);
  back = λ j u k. ⊎_elim (λ t. inl t) (λ t. inr (t.0, (t.1, k.1))) (at_set s.views i j w u k.0);
  forth = λ j u ne k. (set_else s.views i j w ne ∙ k.0, k.1);
}

-- one seat is spent, and the others have their views
pub record Leaves (s t : States) (j : ℕ) (w : View) : Type 0 where
  pub before : Sits s j w
  pub back : (k : ℕ) (u : View) → Sits t k u → (k ≢ j) × Sits s k u
  pub forth : (k : ℕ) (u : View) → k ≢ j → Sits s k u → Sits t k u

pub leaves : (s : States) (ws : List ℕ) (hs : List (Option Value)) (j : ℕ) (w : View) → Sits s j w → Leaves s (state ws hs (set s.views j gone)) j w
leaves s ws hs j w sits = record {
  before = sits;
  back = λ k u c. ⊎_elim (λ t. absurd (true≢false (ap (λ (x : View). x.spent) t.1 ∙ c.1))) (λ t. (t.0, (t.1, c.1))) (at_set s.views j k gone u c.0);
  forth = λ k u ne c. (set_else s.views j k gone ne ∙ c.0, c.1);
}

-- a seat comes after the others
pub record Comes (s t : States) (n : ℕ) (w : View) : Type 0 where
  pub now : Sits t n w
  pub new : (v : View) → ¬ Sits s n v
  pub back : (j : ℕ) (u : View) → Sits t j u → ((j ≡ n) × (w ≡ u)) ⊎ Sits s j u
  pub forth : (j : ℕ) (u : View) → Sits s j u → Sits t j u

pub comes : (s : States) (ws : List ℕ) (hs : List (Option Value)) (w : View) → w.spent ≡ false → Comes s (state ws hs (s.views ++ w ∷ [])) (length s.views) w
comes s ws hs w live = record {
  now = (at_last s.views w (length s.views) refl, live);
  new = λ v c. let h = has_place s.views (length s.views) v c.0 in omega arith;
  back = λ j u c. ⊎_elim (λ t. inl t) (λ t. inr (t, c.1)) (at_end s.views w u j c.0);
  forth = λ j u c. (at_longer s.views (w ∷ []) j u c.0, c.1);
}

-- one seat has one view
pub one_view : (s : States) (i : ℕ) (v w : View) → Sits s i v → Sits s i w → v ≡ w
one_view s i v w a b = some-injective v w (sym a.0 ∙ b.0)

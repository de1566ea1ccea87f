-- Tests that hold of some slot.
use Rattle.std.proofs.Common.{◌≡◌, ℕ, zero, suc, ◌+◌, ◌<◌, Bool, ◌&&◌, ◌||◌, true, false, true≢false, refl, ap, ap₂, sym, subst, ◌∙◌, arith}
use native.Mathlib.Decide.{ℕ_discrete}
use mathlib.Core.Logic.{dite}
use Rattle.held_processes.specs.Operations.{any_below}

pub or_true : (a : Bool) → (a || true) ≡ true
or_true true = refl
or_true false = refl

-- A test that holds of one slot below a bound holds of some slot there.
pub any_found : (test : ℕ → Bool) (n p : ℕ) → p < n → test p ≡ true → any_below test n ≡ true
any_found test zero p below e = absurd (omega (arith, below))
any_found test (suc n) p below e = dite (ℕ_discrete p n)
    (λ is. ap (λ b. any_below test n || b) (subst (λ q. test q ≡ true) is e) ∙ or_true (any_below test n))
    (λ ne. ap (λ b. b || test n) (any_found test n p (omega (arith, below)) e))

-- Where a test holds of no slot below a bound, it doesn't hold of this one.
pub not_at : (test : ℕ → Bool) (n p : ℕ) → p < n → any_below test n ≡ false → test p ≡ false
not_at test n p below none = by (test p) refl
  where
    by : (b : Bool) → test p ≡ b → test p ≡ false
    by true e = absurd (true≢false (sym (any_found test n p below e) ∙ none))
    by false e = e

-- one of which it holds, where it holds of no fewer then
pub any_more : (f g : ℕ → Bool) (n : ℕ) → ((p : ℕ) → f p ≡ true → g p ≡ true) → any_below f n ≡ true → any_below g n ≡ true
any_more f g zero more e = absurd (true≢false (sym e))
any_more f g (suc n) more e = either (any_below f n) (f n) (any_below g n) (g n) (any_more f g n more) (more n) e
  where
    either : (a b c d : Bool) → (a ≡ true → c ≡ true) → (b ≡ true → d ≡ true) → (a || b) ≡ true → (c || d) ≡ true
    either true b c d first second e = ap (λ x. x || d) (first refl)
    either false true c d first second e = ap (λ x. c || x) (second refl) ∙ or_true c
    either false false c d first second e = absurd (true≢false (sym e))

-- A test that fails for each slot below a bound holds of no slot there.
pub any_none : (test : ℕ → Bool) (n : ℕ) → ((p : ℕ) → p < n → test p ≡ false) → any_below test n ≡ false
any_none test zero none = refl
any_none test (suc n) none = ap₂ (λ (a b : Bool). a || b) (any_none test n (λ p below. none p (omega (arith, below)))) (none n (omega arith))

-- tests that agree
pub any_alike : (f g : ℕ → Bool) (n : ℕ) → ((p : ℕ) → p < n → f p ≡ g p) → any_below f n ≡ any_below g n
any_alike f g zero same = refl
any_alike f g (suc n) same = ap₂ (λ (a b : Bool). a || b) (any_alike f g n (λ p below. same p (omega (arith, below)))) (same n (omega arith))

-- none so far, nor here
pub one_more : (test : ℕ → Bool) (n : ℕ) → ((p : ℕ) → p < n → test p ≡ false) → test n ≡ false → (p : ℕ) → p < n + 1 → test p ≡ false
one_more test n none here p below = dite (ℕ_discrete p n) (λ is. subst (λ q. test q ≡ false) (sym is) here) (λ ne. none p (omega (arith, below)))

-- both
pub both : (a b : Bool) → a ≡ true → b ≡ true → (a && b) ≡ true
both a b x y = ap₂ (λ (p q : Bool). p && q) x y

-- not both
pub not_both : (a b : Bool) → (a ≡ true → b ≡ true → ⊥) → (a && b) ≡ false
not_both true true never = absurd (never refl refl)
not_both true false never = refl
not_both false b never = refl

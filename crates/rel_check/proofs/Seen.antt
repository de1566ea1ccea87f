-- Names one after another, and a set of those that were met.
use Rattle.std.proofs.Common.{◌≡◌, ℕ, Bool, true, false, cond, ◌||◌, List, ◌∷◌, Option, Some, if◌then◌else◌, refl, sym, ap, ◌∙◌}
use Rattle.std.specs.Str.{bytes_eq}
use Rattle.std.specs.Ordering.{is_eq, nat_cmp}
use Rattle.std.specs.Cmp.Lexicographic.{slice_cmp}
use Rattle.std.proofs.lemmas.Map.Text.{is_eq-slice_cmp}
use Rattle.rel_check.specs.Names.{Named, first_met}

cond_or : (b c : Bool) → cond b true c ≡ (b || c)
cond_or true c = refl
cond_or false c = refl

-- a set has a further name, once it is put into it, and those that it had
pub met_after : (n m : List ℕ) (before after : Bool) → after ≡ cond (is_eq (slice_cmp nat_cmp n m)) true before → after ≡ (bytes_eq n m || before)
met_after n m before after is = is ∙ (ap (λ b. cond b true before) (is_eq-slice_cmp n m) ∙ cond_or (bytes_eq n m) before)

-- the next name was met before
pub met_again : (met : List ℕ → Bool) (ns later : List Named) (n : Named) (r : Option Named) → ns ≡ n ∷ later → met n.name ≡ true → first_met met ns ≡ r → Some n ≡ r
met_again met ns later n r split is so_far =
    sym (ap (λ b. if b then Some n else first_met (λ m. bytes_eq n.name m || met m) later) is) ∙ (ap (first_met met) (sym split) ∙ so_far)

-- the next name is a new one
pub met_one_more : (met met' : List ℕ → Bool) (ns later : List Named) (n : Named) (r : Option Named) → ns ≡ n ∷ later → met n.name ≡ false
    → ((m : List ℕ) → met' m ≡ (bytes_eq n.name m || met m)) → first_met met ns ≡ r → first_met met' later ≡ r
met_one_more met met' ns later n r split is next so_far =
    ap (λ (f : List ℕ → Bool). first_met f later) (λ j m. next m j)
    ∙ (sym (ap (λ b. if b then Some n else first_met (λ m. bytes_eq n.name m || met m) later) is) ∙ (ap (first_met met) (sym split) ∙ so_far))

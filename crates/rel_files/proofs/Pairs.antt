-- Rows of another number of terms.
use Rattle.std.proofs.Common.{◌≡◌, List, [], ◌∷◌, length, None, refl}
use Rattle.erl_term.specs.declared.term.Term.{Term}
use Rattle.erl_term.specs.Value.{members_of}
use Rattle.rel_files.specs.Parts.{two, three, four}

pub not_two : (ts : List Term) → (length ts ≡ 2 → ⊥) → None ≡ two (members_of ts)
not_two [] other = refl
not_two (t ∷ []) other = refl
not_two (t ∷ u ∷ []) other = absurd (other refl)
not_two (t ∷ u ∷ v ∷ ts) other = refl

pub not_three : (ts : List Term) → (length ts ≡ 3 → ⊥) → None ≡ three (members_of ts)
not_three [] other = refl
not_three (t ∷ []) other = refl
not_three (t ∷ u ∷ []) other = refl
not_three (t ∷ u ∷ v ∷ []) other = absurd (other refl)
not_three (t ∷ u ∷ v ∷ w ∷ ts) other = refl

pub not_four : (ts : List Term) → (length ts ≡ 4 → ⊥) → None ≡ four (members_of ts)
not_four [] other = refl
not_four (t ∷ []) other = refl
not_four (t ∷ u ∷ []) other = refl
not_four (t ∷ u ∷ v ∷ []) other = refl
not_four (t ∷ u ∷ v ∷ w ∷ []) other = absurd (other refl)
not_four (t ∷ u ∷ v ∷ w ∷ x ∷ ts) other = refl

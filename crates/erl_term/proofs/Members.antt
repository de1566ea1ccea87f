-- Members that fit a term, one after another.
use Rattle.std.proofs.Common.{ℕ, ◌+◌, ◌<◌, List, [], ◌∷◌, ◌++◌, length, get_or, take, sym, subst}
use Rattle.std.proofs.lemmas.List.{take_more}
use Rattle.erl_term.specs.declared.term.Term.{Term}
use Rattle.erl_term.specs.Value.{value_of, members_of, FitsTerm, FitTerms}

FitTerms-append : (ts : List Term) (t : Term) → FitTerms (members_of ts) → FitsTerm (value_of t) → FitTerms (members_of (ts ++ t ∷ []))
FitTerms-append [] t h f = (f, tt)
FitTerms-append (u ∷ us) t h f = (h.0, FitTerms-append us t h.1 f)

-- one member more
pub FitTerms-more : (ts : List Term) (i : ℕ) (d : Term) → i < length ts → FitTerms (members_of (take i ts)) → FitsTerm (value_of (get_or ts i d)) →
    FitTerms (members_of (take (i + 1) ts))
FitTerms-more ts i d l h f = subst (λ xs. FitTerms (members_of xs)) (sym (take_more ts i d l)) (FitTerms-append (take i ts) (get_or ts i d) h f)

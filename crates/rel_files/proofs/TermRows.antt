-- The terms of items, one after another.
use Rattle.std.proofs.Common.{◌≡◌, ℕ, ◌+◌, ◌<◌, ◌≤◌, ◌++◌, List, [], ◌∷◌, length, map, take, get_or, Vec, Global, sym, ap, ◌∙◌}
use Rattle.std.proofs.lemmas.List.{map-append, take_all, take_more}
use Rattle.erl_term.specs.declared.term.Term.TheFolds.{fold-roll-Term}
use Rattle.erl_term.specs.declared.term.Term.TheVariants as variant
use Rattle.erl_term.specs.declared.term.Term.{Term}
use Rattle.erl_term.specs.Value.{Value, value_of, values_of, members_of}
use Rattle.erl_term.specs.Value.Value.{list}
use Rattle.rel_files.specs.Terms.{list_of}

-- one more term, of the item in its place
pub terms_more : {A B : Type 0} (view : A → B) (form : B → Value) (items : List A) (i : ℕ) (item : A) (old new : List Term) (term : Term)
    → i < length items → item ≡ get_or items i item → value_of term ≡ form (view item) → new ≡ old ++ term ∷ []
    → map value_of old ≡ map form (map view (take i items)) → map value_of new ≡ map form (map view (take (i + 1) items))
terms_more {A} {B} view form items i item old new term within at made grown so_far =
    let split : take (i + 1) items ≡ take i items ++ item ∷ [] = take_more items i item within ∙ ap (λ (x : A). take i items ++ x ∷ []) (sym at) in
    let viewed : map view (take (i + 1) items) ≡ map view (take i items) ++ view item ∷ [] = ap (map view) split ∙ map-append view (take i items) (item ∷ []) in
    let spelled : map form (map view (take (i + 1) items)) ≡ map form (map view (take i items)) ++ form (view item) ∷ [] =
    ap (map form) viewed ∙ map-append form (map view (take i items)) (view item ∷ []) in
    (ap (map value_of) grown ∙ map-append value_of old (term ∷ [])) ∙ ((λ j. so_far j ++ made j ∷ []) ∙ sym spelled)

-- each item has its term
pub terms_all : {A B : Type 0} (view : A → B) (form : B → Value) (items : List A) (i : ℕ) (terms : Vec Term Global) → length items ≤ i
    → map value_of terms.items ≡ map form (map view (take i items)) → value_of (variant.List terms) ≡ list_of (map form (map view items))
terms_all {A} {B} view form items i terms past so_far =
    let is : value_of (variant.List terms) ≡ list (members_of terms.items) = ap value_of (sym (variant.rolls-List terms)) ∙ fold-roll-Term _ _ _ in
    is ∙ ((λ j. list (values_of (so_far j))) ∙ ap (λ (xs : List A). list_of (map form (map view xs))) (take_all i items past))

-- What is loaded, as it is listed.
use Rattle.std.proofs.Common.{◌≡◌, ℕ, ◌+◌, ◌<◌, ◌≤◌, min, List, [], ◌∷◌, map, length, drop, get_or, Option, None, Ordering, Less, Equal, Greater, refl, sym, ap, ◌∙◌, ⊎_elim, arith}
use Rattle.std.specs.BTreeMap.{insert_entry}
use Rattle.std.specs.Cmp.Lexicographic.{slice_cmp}
use Rattle.std.specs.Ordering.{nat_cmp, match_ordering}
use Rattle.std.proofs.lemmas.Bool.{cases_lt}
use Rattle.std.proofs.lemmas.List.{drop_more, drop_all}
use Rattle.library.specs.Library.{Specification, TableTerm}
use Rattle.loaded_modules.specs.Loaded.{module_of, NamedModules, named_modules, loaded_behind}

-- What is read of a map is changed as the map is, where the keys are in the order of what is read of them.
pub insert_entry-read : {K L X Y : Type 0} (R : K → K → Ordering) (S : L → L → Ordering) (f : K → L) (g : X → Y) → ((a b : K) → R a b ≡ S (f a) (f b))
    → (es : List (K × X)) (k : K) (v : X)
    → map (λ (e : K × X). (f e.0, g e.1)) (insert_entry R es k v) ≡ insert_entry S (map (λ (e : K × X). (f e.0, g e.1)) es) (f k) (g v)
insert_entry-read R S f g same [] k v = refl
insert_entry-read {K} {L} {X} {Y} R S f g same (e ∷ es) k v =
    by (R k e.0)
    ∙ (ap (λ r. match_ordering r (read (k, v) ∷ read e ∷ map read es) ((f e.0, g v) ∷ map read es) (read e ∷ map read (insert_entry R es k v))) (same k e.0)
    ∙ ap (λ later. match_ordering (S (f k) (f e.0)) (read (k, v) ∷ read e ∷ map read es) ((f e.0, g v) ∷ map read es) (read e ∷ later)) (insert_entry-read R S f g same es k v))
  where
    read : K × X → L × Y
    read e = (f e.0, g e.1)

    by : (r : Ordering) → map read (match_ordering r ((k, v) ∷ e ∷ es) ((e.0, v) ∷ es) (e ∷ insert_entry R es k v))
        ≡ match_ordering r (read (k, v) ∷ read e ∷ map read es) ((f e.0, g v) ∷ map read es) (read e ∷ map read (insert_entry R es k v))
    by Less = refl
    by Equal = refl
    by Greater = refl

-- what is left of a library is loaded after what is loaded so far, and one module more is loaded
pub one_listed : (app : Specification) (names : List (List ℕ)) (tables : List (Option TableTerm)) (k : ℕ) (m : List ℕ) (old new r : NamedModules)
    → k < length names → k < length tables → get_or names k m ≡ m → new ≡ insert_entry (slice_cmp nat_cmp) old m (module_of app (get_or tables k None))
    → loaded_behind old (named_modules app (drop k names) (drop k tables)) ≡ r
    → loaded_behind new (named_modules app (drop (k + 1) names) (drop (k + 1) tables)) ≡ r
one_listed app names tables k m old new r named there name is so_far =
    let split : drop k names ≡ m ∷ drop (k + 1) names = drop_more names k m named ∙ ap (λ n. n ∷ drop (k + 1) names) name in
    let split_too : drop k tables ≡ get_or tables k None ∷ drop (k + 1) tables = drop_more tables k None there in
    ap (λ ms. loaded_behind ms (named_modules app (drop (k + 1) names) (drop (k + 1) tables))) is
    ∙ (sym (λ j. loaded_behind old (named_modules app (split j) (split_too j))) ∙ so_far)

no_tables : (app : Specification) (names : List (List ℕ)) → named_modules app names [] ≡ []
no_tables app [] = refl
no_tables app (n ∷ ns) = refl

-- no module is left
pub all_listed : (app : Specification) (names : List (List ℕ)) (tables : List (Option TableTerm)) (k : ℕ) (old r : NamedModules)
    → min (length names) (length tables) ≤ k → loaded_behind old (named_modules app (drop k names) (drop k tables)) ≡ r → old ≡ r
all_listed app names tables k old r none so_far =
    let left : named_modules app (drop k names) (drop k tables) ≡ [] = ⊎_elim
    (λ within. ap (named_modules app (drop k names)) (drop_all k tables (omega (arith, none, within))) ∙ no_tables app (drop k names))
    (λ past. ap (λ ns. named_modules app ns (drop k tables)) (drop_all k names past))
    (cases_lt k (length names)) in
    sym (ap (loaded_behind old) left) ∙ so_far

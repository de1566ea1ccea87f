-- Modules by their names, and the list of them.
use Rattle.std.proofs.Common.{◌≡◌, ℕ, Bool, true, false, cond, not, List, [], ◌∷◌, map, Some, None, Equal, refl, sym, ap, ◌∙◌}
use Rattle.std.specs.Cmp.Lexicographic.{slice_cmp}
use Rattle.std.specs.List.{AllZip, filter}
use Rattle.std.specs.Map.{lookup, remove_entry}
use Rattle.std.specs.Option.{option_map}
use Rattle.std.specs.Ordering.{nat_cmp, is_eq}
use Rattle.std.specs.Str.{bytes_eq}
use Rattle.std.proofs.lemmas.Map.Text.{is_eq-slice_cmp}
use Rattle.std.proofs.lemmas.Slice.Eq.{bytes_eq-Decides}
use Rattle.loaded_modules.specs.Laws.{FoundAsListed}
use Rattle.loaded_modules.specs.Loaded.{module_in}

-- what is found among entries is found in what is read of them, where the keys are tested alike
pub lookup-read : {K L X Y : Type 0} (test : K → Bool) (test' : L → Bool) (f : K → L) (g : X → Y) → ((k : K) → test k ≡ test' (f k)) → (es : List (K × X))
    → option_map g (lookup test es) ≡ lookup test' (map (λ (e : K × X). (f e.0, g e.1)) es)
lookup-read test test' f g same [] = refl
lookup-read {K} {L} {X} {Y} test test' f g same (e ∷ es) =
    go (test e.0)
    ∙ (ap (λ b. cond b (Some (g e.1)) (option_map g (lookup test es))) (same e.0)
    ∙ ap (cond (test' (f e.0)) (Some (g e.1))) (lookup-read test test' f g same es))
  where
    go : (b : Bool) → option_map g (cond b (Some e.1) (lookup test es)) ≡ cond b (Some (g e.1)) (option_map g (lookup test es))
    go true = refl
    go false = refl

pub found_as_listed : FoundAsListed
found_as_listed l name = lookup-read _ (bytes_eq name) _ module_in (λ k. is_eq-slice_cmp name _) l.modules.entries

-- names that are the same

pub same_name : (name q : List ℕ) → slice_cmp nat_cmp name q ≡ Equal → name ≡ q
same_name name q is = (bytes_eq-Decides name q).0 (sym (is_eq-slice_cmp name q) ∙ ap is_eq is)

pub itself : (name : List ℕ) → bytes_eq name name ≡ true
itself name = (bytes_eq-Decides name name).1 refl

-- entries that are taken out, or copied

-- Where no entry passes the test, all are left without those that do.
none_passes : {K L X Y : Type 0} (test : K → Bool) (test' : L → Bool) (f : K → L) (g : X → Y) → ((k : K) → test k ≡ test' (f k)) → (es : List (K × X)) → lookup test es ≡ None
    → map (λ (e : K × X). (f e.0, g e.1)) es ≡ filter (λ (e : L × Y). not (test' e.0)) (map (λ (e : K × X). (f e.0, g e.1)) es)
none_passes test test' f g same [] none = refl
none_passes {K} {L} {X} {Y} test test' f g same (e ∷ es) none = at (test e.0) refl none (none_passes test test' f g same es)
  where
    read : K × X → L × Y
    read x = (f x.0, g x.1)

    left : List (L × Y) → List (L × Y)
    left = filter (λ (x : L × Y). not (test' x.0))

    at : (b : Bool) → test e.0 ≡ b → cond b (Some e.1) (lookup test es) ≡ None → (lookup test es ≡ None → map read es ≡ left (map read es))
        → map read (e ∷ es) ≡ left (map read (e ∷ es))
    at true is none later = absurd cc
    at false is none later =
        ap (λ l. read e ∷ l) (later none) ∙ sym (ap (λ b. cond (not b) (read e ∷ left (map read es)) (left (map read es))) (sym (same e.0) ∙ is))

-- Where no entry passes the test once the first one that did is away, those that are left are all that don't.
pub removed-read : {K L X Y : Type 0} (test : K → Bool) (test' : L → Bool) (f : K → L) (g : X → Y) → ((k : K) → test k ≡ test' (f k)) → (es : List (K × X))
    → lookup test (remove_entry test es) ≡ None
    → map (λ (e : K × X). (f e.0, g e.1)) (remove_entry test es) ≡ filter (λ (e : L × Y). not (test' e.0)) (map (λ (e : K × X). (f e.0, g e.1)) es)
removed-read test test' f g same [] none = refl
removed-read {K} {L} {X} {Y} test test' f g same (e ∷ es) none =
    at (test e.0) refl none (removed-read test test' f g same es) ∙ ap (λ b. cond (not b) (read e ∷ left (map read es)) (left (map read es))) (same e.0)
  where
    read : K × X → L × Y
    read x = (f x.0, g x.1)

    left : List (L × Y) → List (L × Y)
    left = filter (λ (x : L × Y). not (test' x.0))

    at : (b : Bool) → test e.0 ≡ b → lookup test (cond b es (e ∷ remove_entry test es)) ≡ None → (lookup test (remove_entry test es) ≡ None → map read (remove_entry test es) ≡ left (map read es))
        → map read (cond b es (e ∷ remove_entry test es)) ≡ cond (not b) (read e ∷ left (map read es)) (left (map read es))
    at true is none later = none_passes test test' f g same es none
    at false is none later = ap (λ l. read e ∷ l) (later (sym (ap (λ b. cond b (Some e.1) (lookup test (remove_entry test es))) is) ∙ none))

-- A copy of a map is read as the map, where each key and each value is.
pub copied-read : {K L X Y : Type 0} (f : K → L) (g : X → Y) (C : K → K → Type 0) (D : X → X → Type 0) → ((a b : K) → C a b → f b ≡ f a) → ((a b : X) → D a b → g b ≡ g a)
    → (es fs : List (K × X)) → AllZip (λ (p q : K × X). C p.0 q.0 × D p.1 q.1) es fs
    → map {B = L × Y} (λ (e : K × X). (f e.0, g e.1)) fs ≡ map (λ (e : K × X). (f e.0, g e.1)) es
copied-read f g C D key value [] [] all = refl
copied-read f g C D key value [] (y ∷ ys) all = absurd all
copied-read f g C D key value (x ∷ xs) [] all = absurd all
copied-read {K} {L} {X} {Y} f g C D key value (x ∷ xs) (y ∷ ys) all =
    let read : K × X → L × Y = λ e. (f e.0, g e.1) in
    let same : read y ≡ read x = λ j. (key x.0 y.0 all.0.0 j, value x.1 y.1 all.0.1 j) in
    λ j. same j ∷ copied-read f g C D key value xs ys all.1 j

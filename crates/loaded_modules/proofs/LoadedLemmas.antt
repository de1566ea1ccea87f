-- Modules that are loaded one after another.
use Rattle.std.proofs.Common.{◌≡◌, ℕ, ◌+◌, ◌<◌, ◌≤◌, min, Bool, true, false, cond, List, [], ◌∷◌, length, drop, get_or, Option, Some, None, if◌then◌else◌, refl, sym, ap, ◌∙◌, ⊎_elim, arith}
use Rattle.std.specs.Option.{option_map, option_or}
use Rattle.std.specs.Str.{bytes_eq}
use Rattle.std.proofs.lemmas.Bool.{cases_lt}
use Rattle.std.proofs.lemmas.List.{drop_more, drop_all}
use Rattle.library.specs.Library.{Specification, TableTerm}
use Rattle.loaded_modules.specs.Loaded.{Module, module_of, modules_with}

-- what is found in a list or else before it, once one more goes in front of what was before
or_else : (b : Bool) (later : Option Module) (x : Module) (old : Option Module) → option_or later (cond b (Some x) old) ≡ option_or (option_or later (if b then Some x else None)) old
or_else true None x old = refl
or_else false None x old = refl
or_else b (Some y) x old = refl

pub one_loaded : (app : Specification) (names : List (List ℕ)) (tables : List (Option TableTerm)) (k : ℕ) (q m : List ℕ) (old new r : Option Module)
    → k < length names → k < length tables → get_or names k m ≡ m → new ≡ cond (bytes_eq m q) (Some (module_of app (get_or tables k None))) old
    → option_or (modules_with app (drop k names) (drop k tables) q) old ≡ r
    → option_or (modules_with app (drop (k + 1) names) (drop (k + 1) tables) q) new ≡ r
one_loaded app names tables k q m old new r named there name is so_far =
    let later = modules_with app (drop (k + 1) names) (drop (k + 1) tables) q in
    let split : drop k names ≡ m ∷ drop (k + 1) names = drop_more names k m named ∙ ap (λ n. n ∷ drop (k + 1) names) name in
    let split_too : drop k tables ≡ get_or tables k None ∷ drop (k + 1) tables = drop_more tables k None there in
    ap (option_or later) is
    ∙ (or_else (bytes_eq m q) later (module_of app (get_or tables k None)) old
    ∙ (sym (λ j. option_or (modules_with app (split j) (split_too j) q) old) ∙ so_far))

no_tables : (app : Specification) (names : List (List ℕ)) (q : List ℕ) → modules_with app names [] q ≡ None
no_tables app [] q = refl
no_tables app (n ∷ ns) q = refl

pub all_loaded : (app : Specification) (names : List (List ℕ)) (tables : List (Option TableTerm)) (k : ℕ) (q : List ℕ) (old r : Option Module)
    → min (length names) (length tables) ≤ k → option_or (modules_with app (drop k names) (drop k tables) q) old ≡ r → old ≡ r
all_loaded app names tables k q old r none so_far =
    let left : modules_with app (drop k names) (drop k tables) q ≡ None = ⊎_elim
    (λ within. ap (λ ts. modules_with app (drop k names) ts q) (drop_all k tables (omega (arith, none, within))) ∙ no_tables app (drop k names) q)
    (λ past. ap (λ ns. modules_with app ns (drop k tables) q) (drop_all k names past))
    (cases_lt k (length names)) in
    sym (ap (λ o. option_or o old) left) ∙ so_far

-- a map from modules to what is loaded
pub map_cond : {X Y : Type 0} (f : X → Y) (b : Bool) (x : X) (o : Option X) → option_map f (cond b (Some x) o) ≡ cond b (Some (f x)) (option_map f o)
map_cond f true x o = refl
map_cond f false x o = refl

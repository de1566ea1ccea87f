-- The tables of a release, as they are loaded and as they were tested.
use Rattle.std.proofs.Common.{◌≡◌, Bool, true, false, ℕ, List, [], ◌∷◌, ◌++◌, map, Option, Some, None, Contains, if◌then◌else◌, refl, ap, sym, subst, ◌∙◌}
use Rattle.std.specs.Option.{option_map, option_or, option_and_then}
use Rattle.std.specs.Str.{bytes_eq}
use Rattle.std.proofs.lemmas.Slice.Eq.{bytes_eq-Decides}
use Rattle.mod_table.specs.declared.table.Table.{Table}
use Rattle.rel_files.specs.AppFile.{Specification}
use Rattle.library.specs.Library.{Library, TableTerm, AreLibrariesOf}
use Rattle.rel_files.specs.Name.{AreDistinct}
use Rattle.rel_files.specs.Release.{Application}
use Rattle.rel_check.specs.Modules.{Module, parts, modules_in, table_of}
use Rattle.rel_check.specs.Modules as tested
use Rattle.rel_check.specs.Names.{Named, module_names, first_module_again}
use Rattle.rel_check.specs.Walk as walk
use Rattle.rel_check.proofs.Distinct.{none_again}
use Rattle.rel_check.proofs.Joins.{or_none, or_assoc}
use Rattle.rel_check.proofs.Members.{first_member, later_member}
use Rattle.loaded_modules.specs.Loaded as loaded
use Rattle.node_processes.specs.Fresh.{tables_in}

-- the table of the last module of this name, if there is one
abbrev last_named : List Module → List ℕ → Option (Option Table)
last_named [] n = None
last_named (m ∷ ms) n = option_or (last_named ms n) (if bytes_eq m.name n then Some m.table else None)

map_or : {X Y : Type 0} (f : X → Y) (a b : Option X) → option_map f (option_or a b) ≡ option_or (option_map f a) (option_map f b)
map_or f None b = refl
map_or f (Some x) b = refl

last_behind : (xs ys : List Module) (n : List ℕ) → last_named (xs ++ ys) n ≡ option_or (last_named ys n) (last_named xs n)
last_behind [] ys n = sym (or_none (last_named ys n))
last_behind (m ∷ xs) ys n =
    ap (λ o. option_or o (if bytes_eq m.name n then Some m.table else None)) (last_behind xs ys n)
    ∙ or_assoc (last_named ys n) (last_named xs n) (if bytes_eq m.name n then Some m.table else None)

-- the table that a module was loaded with
table_at : (app : Specification) (t : Option TableTerm) (b : Bool)
    → (if b then Some (tested.table_in t) else None) ≡ option_map (λ (m : loaded.Module). m.table) (if b then Some (loaded.module_of app t) else None)
table_at app None true = refl
table_at app (Some t) true = refl
table_at app t false = refl

last_of_one : (a : Application) (app : Specification) (ms : List (List ℕ)) (ts : List (Option TableTerm)) (n : List ℕ)
    → last_named (tested.modules_with a ms ts) n ≡ option_map (λ (m : loaded.Module). m.table) (loaded.modules_with app ms ts n)
last_of_one a app [] ts n = refl
last_of_one a app (m ∷ ms) [] n = refl
last_of_one a app (m ∷ ms) (t ∷ ts) n =
    (λ i. option_or (last_of_one a app ms ts n i) (table_at app t (bytes_eq m n) i))
    ∙ sym (map_or (λ (k : loaded.Module). k.table) (loaded.modules_with app ms ts n) (if bytes_eq m n then Some (loaded.module_of app t) else None))

-- those of all libraries
last_of_all : (as' : List Application) (ls : List Library) → AreLibrariesOf as' ls → (n : List ℕ)
    → last_named (modules_in (parts as' ls)) n ≡ option_map (λ (m : loaded.Module). m.table) (loaded.modules_of ls n)
last_of_all [] [] are n = refl
last_of_all [] (l ∷ ls) are n = absurd are
last_of_all (a ∷ as') [] are n = absurd are
last_of_all (a ∷ as') (l ∷ ls) are n =
    last_behind (tested.modules_with a l.app.modules l.tables) (modules_in (parts as' ls)) n
    ∙ ((λ i. option_or (last_of_all as' ls are.2 n i) (last_of_one a l.app l.app.modules l.tables n i))
    ∙ sym (map_or (λ (k : loaded.Module). k.table) (loaded.modules_of ls n) (loaded.library_modules l n)))

abbrev names_of : List Module → List (List ℕ)
names_of ms = map (λ (n : Named). n.name) (module_names ms)

not_named : (ms : List Module) (n : List ℕ) → (Contains (names_of ms) n → ⊥) → (last_named ms n ≡ None) × (table_of ms n ≡ None)
not_named [] n apart = (refl, refl)
not_named (m ∷ ms) n apart = go (bytes_eq m.name n) refl (not_named ms n (λ later. apart (later_member m.name (names_of ms) n later)))
  where
    go : (b : Bool) → bytes_eq m.name n ≡ b → (last_named ms n ≡ None) × (table_of ms n ≡ None)
        → (option_or (last_named ms n) (if b then Some m.table else None) ≡ None) × (option_or (table_of ms n) (if b then m.table else None) ≡ None)
    go true is rest = absurd (apart (subst (Contains (names_of (m ∷ ms))) ((bytes_eq-Decides m.name n).0 is) (first_member m.name (names_of ms))))
    go false is rest = (or_none (last_named ms n) ∙ rest.0, or_none (table_of ms n) ∙ rest.1)

abbrev joined : Option (Option Table) → Option Table
joined o = option_and_then (λ (t : Option Table). t) o

-- where no name stands twice, the last module of a name is the one that has its table
last_is : (ms : List Module) (n : List ℕ) → AreDistinct (names_of ms) → joined (last_named ms n) ≡ table_of ms n
last_is [] n distinct = refl
last_is (m ∷ ms) n distinct = go (bytes_eq m.name n) refl (last_is ms n distinct.1)
  where
    go : (b : Bool) → bytes_eq m.name n ≡ b → joined (last_named ms n) ≡ table_of ms n
        → joined (option_or (last_named ms n) (if b then Some m.table else None)) ≡ option_or (table_of ms n) (if b then m.table else None)
    go true is rest =
        let none = not_named ms n (λ again. distinct.0 (subst (Contains (names_of ms)) (sym ((bytes_eq-Decides m.name n).0 is)) again)) in
        ap (λ o. joined (option_or o (Some m.table))) none.0 ∙ sym (ap (λ o. option_or o m.table) none.1)
    go false is rest = ap joined (or_none (last_named ms n)) ∙ (rest ∙ sym (or_none (table_of ms n)))

joined_map : (o : Option loaded.Module) → joined (option_map (λ (m : loaded.Module). m.table) o) ≡ option_and_then (λ (m : loaded.Module). m.table) o
joined_map None = refl
joined_map (Some m) = refl

-- Where no module stands in two applications, the tables that are loaded are those that were tested.
pub same_tables : (as' : List Application) (ls : List Library) → AreLibrariesOf as' ls → first_module_again (parts as' ls) ≡ None
    → tables_in ls ≡ walk.tables_of (parts as' ls)
same_tables as' ls are none =
    let distinct = (none_again (module_names (modules_in (parts as' ls)))).0 none in
    λ i n. (sym (joined_map (loaded.modules_of ls n)) ∙ (sym (ap joined (last_of_all as' ls are n)) ∙ last_is (modules_in (parts as' ls)) n distinct)) i

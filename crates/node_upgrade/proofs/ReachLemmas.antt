-- A module that is loaded after a script was loaded before it, or the script loads it.
use Rattle.std.proofs.Common.{◌≡◌, ℕ, Bool, true, false, cond, not, ◌||◌, List, [], ◌∷◌, ◌++◌, Option, Some, None, refl, sym, ap, ◌∙◌}
use Rattle.std.specs.List.{filter}
use Rattle.std.specs.Str.{bytes_eq}
use Rattle.std.proofs.lemmas.List.Folds.{list_any-append}
use Rattle.loaded_modules.specs.Loaded.{Module, NamedModules, module_named, with_loaded}
use Rattle.relup_instruction.specs.Instruction.{Instruction}
use Rattle.relup_instruction.specs.Instruction.Instruction.{apply, code_change, load, remove}
use Rattle.relup_file.specs.Script.{is_point}
use Rattle.relup_exec.specs.Script.{Run, Site, mode_of, run_after}
use Rattle.relup_exec.specs.Outcome.{run_through}
use Rattle.relup_exec.proofs.RunLemmas.{call_modules, changed_modules}
use Rattle.node_upgrade.specs.Names.{is_among, sorted_names}
use Rattle.node_upgrade.specs.Stale.{is_stale, names_concerned, names_in, names_loaded}
use Rattle.node_upgrade.proofs.NamesInOrder.{among_inserted}
use Rattle.node_upgrade.proofs.StaleLemmas.{stale_are}

left : (a b : Bool) → a ≡ true → (a || b) ≡ true
left a b is = ap (λ x. x || b) is

-- where a module is loaded, or one is removed
loaded_among : (m : Option Module) (name q : List ℕ) (ms : NamedModules) → is_among q (names_in (with_loaded m name ms)) ≡ true → (is_among q (names_in ms) || (bytes_eq q name || false)) ≡ true
loaded_among None name q ms is = left (is_among q (names_in ms)) (bytes_eq q name || false) is
loaded_among (Some m) name q ms is = turned (bytes_eq q name) (is_among q (names_in ms)) (sym (among_inserted name q m ms) ∙ is)
  where
    turned : (a b : Bool) → (a || b) ≡ true → (b || (a || false)) ≡ true
    turned true true is = refl
    turned true false is = refl
    turned false true is = refl
    turned false false is = is

kept_among : (test : List ℕ × Module → Bool) (q : List ℕ) (ms : NamedModules) → is_among q (names_in (filter test ms)) ≡ true → is_among q (names_in ms) ≡ true
kept_among test q [] is = is
kept_among test q (m ∷ ms) is = by (test m) (bytes_eq q m.0) refl is (kept_among test q ms)
  where
    either : (a : Bool) → (a || true) ≡ true
    either true = refl
    either false = refl

    by : (t b : Bool) → bytes_eq q m.0 ≡ b → is_among q (names_in (cond t (m ∷ filter test ms) (filter test ms))) ≡ true
        → (is_among q (names_in (filter test ms)) ≡ true → is_among q (names_in ms) ≡ true) → (bytes_eq q m.0 || is_among q (names_in ms)) ≡ true
    by t true same is later = left (bytes_eq q m.0) (is_among q (names_in ms)) same
    by true false same is later = ap (λ x. bytes_eq q m.0 || x) (later (ap (λ x. x || is_among q (names_in (filter test ms))) (sym same) ∙ is)) ∙ either (bytes_eq q m.0)
    by false false same is later = ap (λ x. bytes_eq q m.0 || x) (later is) ∙ either (bytes_eq q m.0)

-- A module that is loaded after an instruction was loaded before it, or the instruction loads it.
step_among : (s : Site) (e b : Bool) (i : Instruction) (r : Run) (q : List ℕ) → is_among q (names_in (run_after s e b i r).modules) ≡ true
    → (is_among q (names_in r.modules) || is_among q (names_loaded (i ∷ []))) ≡ true
step_among s e b (load p) r q is = loaded_among (module_named p.name r.fetched) p.name q r.modules is
step_among s e b (remove p) r q is = left (is_among q (names_in r.modules)) false (kept_among (λ m. not (bytes_eq p.name m.0)) q r.modules is)
step_among s e b (code_change c) r q is = left (is_among q (names_in r.modules)) false (ap (λ ms. is_among q (names_in ms)) (sym (changed_modules s (mode_of c.mode) c.changes r)) ∙ is)
step_among s e b (apply c) r q is = left (is_among q (names_in r.modules)) false (ap (λ ms. is_among q (names_in ms)) (sym (call_modules s c b r)) ∙ is)
step_among s e b i r q is = left (is_among q (names_in r.modules)) false is

row_loaded : (i : Instruction) (is : List Instruction) (q : List ℕ) → (is_among q (names_loaded (i ∷ [])) || is_among q (names_loaded is)) ≡ is_among q (names_loaded (i ∷ is))
row_loaded (load p) is q = joined (bytes_eq q p.name) (is_among q (names_loaded is))
  where
    joined : (a b : Bool) → ((a || false) || b) ≡ (a || b)
    joined true b = refl
    joined false b = refl
row_loaded i is q = refl

-- A module is loaded after some instructions: it was loaded before them, or the first one loads it, or a later one does.
both_among : (a b c l : Bool) → (b || l) ≡ true → (b ≡ true → (a || c) ≡ true) → (a || (c || l)) ≡ true
both_among true b c l either one = refl
both_among false b true l either one = refl
both_among false true false l either one = absurd (let no = one refl in cc no)
both_among false false false l either one = either

-- A module that is loaded after a whole script was loaded before it, or the script loads it.
pub among_through : (s : Site) (e : Bool) (reported : List Bool) (is : List Instruction) (r : Run) (q : List ℕ) → is_among q (names_in (run_through s e reported is r).modules) ≡ true
    → (is_among q (names_in r.modules) || is_among q (names_loaded is)) ≡ true
among_through s e reported [] r q there = left (is_among q (names_in r.modules)) false there
among_through s true reported (i ∷ is) r q there =
    ap (λ x. is_among q (names_in r.modules) || x) (sym (row_loaded i is q))
    ∙ both_among (is_among q (names_in r.modules)) (is_among q (names_in (run_after s true false i r).modules)) (is_among q (names_loaded (i ∷ []))) (is_among q (names_loaded is))
    (among_through s (not (is_point i)) reported is (run_after s true false i r) q there) (step_among s true false i r q)
among_through s false [] (i ∷ is) r q there = left (is_among q (names_in r.modules)) (is_among q (names_loaded (i ∷ is))) there
among_through s false (b ∷ reported) (i ∷ is) r q there =
    ap (λ x. is_among q (names_in r.modules) || x) (sym (row_loaded i is q))
    ∙ both_among (is_among q (names_in r.modules)) (is_among q (names_in (run_after s false b i r).modules)) (is_among q (names_loaded (i ∷ []))) (is_among q (names_loaded is))
    (among_through s false reported is (run_after s false b i r) q there) (step_among s false b i r q)

-- To find the stale modules, the names that an installation concerns are enough.
pub stale_behind : (old next target : NamedModules) (script : List Instruction)
    → ((q : List ℕ) → is_among q (names_in next) ≡ true → (is_among q (names_in old) || is_among q (names_loaded script)) ≡ true)
    → filter (is_stale next target) (sorted_names (names_concerned old target script)) ≡ sorted_names (filter (is_stale next target) (names_in next ++ names_in target))
stale_behind old next target script reached =
    stale_are next target (names_concerned old target script) (λ q is. parts q ∙ first (is_among q (names_in old)) (is_among q (names_in target)) (is_among q (names_loaded script)) (reached q is))
    (λ q is. parts q ∙ second (is_among q (names_in old)) (is_among q (names_in target)) (is_among q (names_loaded script)) is)
  where
    parts : (q : List ℕ) → is_among q (names_concerned old target script) ≡ (is_among q (names_in old) || (is_among q (names_in target) || is_among q (names_loaded script)))
    parts q =
        list_any-append (bytes_eq q) (names_in old) (names_in target ++ names_loaded script)
        ∙ ap (λ x. is_among q (names_in old) || x) (list_any-append (bytes_eq q) (names_in target) (names_loaded script))

    first : (a b c : Bool) → (a || c) ≡ true → (a || (b || c)) ≡ true
    first true b c is = refl
    first false true c is = refl
    first false false c is = is

    second : (a b c : Bool) → b ≡ true → (a || (b || c)) ≡ true
    second true b c is = refl
    second false b c is = ap (λ x. x || c) is

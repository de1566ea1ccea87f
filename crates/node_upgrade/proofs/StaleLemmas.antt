-- Names that are noted one after another, and those of stale modules among them.
use Rattle.std.proofs.Common.{◌≡◌, ℕ, Bool, true, false, cond, not, ◌||◌, ◌&&◌, List, [], ◌∷◌, ◌++◌, is_some, map, Option, Some, None, Result, Ok, Err, ◌+◌, ◌<◌, length, drop, get_or, refl, sym, ap, subst, ◌∙◌}
use Rattle.std.specs.Borrow.{Bor}
use Rattle.std.specs.BTreeMap.{BTreeMap, get_by, keys}
use Rattle.std.specs.List.{filter}
use Rattle.std.specs.List.Sorted.{IsStrictlySortedBy}
use Rattle.std.specs.Map.{lookup}
use Rattle.std.specs.Map.Iter.{deref_pair}
use Rattle.std.specs.Option.{option_map}
use Rattle.std.specs.Str.{bytes_eq}
use Rattle.std.specs.Cmp.Lexicographic.{slice_cmp, nat_list_eq_equiv}
use Rattle.std.specs.Ordering.{nat_cmp, is_eq}
use Rattle.std.specs.Prelude.{IfOk}
use Rattle.std.proofs.lemmas.List.{drop_more}
use Rattle.std.proofs.lemmas.List.Kept.{IsStrictlySortedBy-filter}
use Rattle.std.proofs.lemmas.List.Folds.{list_any-append}
use Rattle.std.proofs.lemmas.Map.Made.{is_some-lookup}
use Rattle.std.proofs.lemmas.Map.Text.{is_eq-slice_cmp}
use Rattle.std.proofs.lemmas.Slice.Eq.{bytes_eq-Decides}
use Rattle.relup_exec.specs.Script.{version_in}
use Rattle.loaded_modules.specs.declared.loaded.Loaded.{Loaded}
use Rattle.loaded_modules.specs.Loaded.{Module, NamedModules, listed_in, module_named, modules_in, name_and_version}
use Rattle.node_upgrade.specs.Names.{is_among, AreNamesWith, sorted_names}
use Rattle.loaded_modules.proofs.NamedLemmas.{found_as_listed}
use Rattle.node_upgrade.proofs.NamesInOrder.{names_determined, sorted_are_names, sorted-read, list_any-read}
use Rattle.node_upgrade.specs.InMemory.{NotesNames, is_noted}
use Rattle.node_upgrade.specs.Stale.{is_stale, names_in, names_loaded, same_version}
use Rattle.relup_instruction.specs.declared.instruction.Instr.{Instr}
use Rattle.relup_instruction.specs.declared.instruction.Instr.TheVariants.{Load}
use Rattle.relup_instruction.specs.declared.instruction.Purging.{Purging}
use Rattle.relup_instruction.specs.Instruction.{PurgingForm, instruction_of, script_of}
use Rattle.relup_instruction.specs.Instruction.Instruction.{load}

abbrev Noted : Type 0
Noted = BTreeMap (Bor (List ℕ)) (Unit {0})

-- the version of a module, as it is asked for
pub version_is : (l : Loaded) (name : List ℕ) (o : Option (List ℕ)) → o ≡ option_map (λ (m : Module). m.vsn) (modules_in l name) → version_in name (listed_in l) ≡ o
version_is l name o is = sym (is ∙ ap (option_map (λ (m : Module). m.vsn)) (found_as_listed l name))

pub versions_are : (loaded target : Loaded) (name : List ℕ) (a b : Option (List ℕ)) → a ≡ option_map (λ (m : Module). m.vsn) (modules_in loaded name) → b ≡ option_map (λ (m : Module). m.vsn) (modules_in target name)
    → not (same_version a b) ≡ is_stale (listed_in loaded) (listed_in target) name
versions_are loaded target name a b one other = λ j. not (same_version (sym (version_is loaded name a one) j) (sym (version_is target name b other) j))

-- the release alone has the module, or none has it
pub there_alone : (o : Option (Bor (List ℕ))) → is_some o ≡ not (same_version None (option_map (λ (v : Bor (List ℕ)). v.now) o))
there_alone None = refl
there_alone (Some v) = refl

-- the names that are noted, as the map has them
pub names_listed : (noted : Noted) (names : List (List ℕ)) → IsStrictlySortedBy (λ x y. slice_cmp nat_cmp x.now y.now) (keys noted) → names ≡ map (λ k. k.now) (keys noted)
    → AreNamesWith (is_noted noted) names
names_listed noted names ordered are = record {
  ordered = subst (IsStrictlySortedBy (slice_cmp nat_cmp)) (sym are) (sorted-read _ (slice_cmp nat_cmp) (λ k. k.now) (λ a b. refl) (keys noted) ordered);
  same = λ q. ap (is_among q) are
      ∙ (sym (list_any-read (λ k. is_eq (slice_cmp nat_cmp q k.now)) (bytes_eq q) (λ k. k.now) (λ k. is_eq-slice_cmp q k.now) (keys noted)) ∙ sym (is_some-lookup _ noted.entries));
}

-- the names of modules that are reported with their versions
abbrev pub first_names : List (Bor (List ℕ) × Bor (List ℕ)) → List (List ℕ)
first_names ps = map (λ (p : Bor (List ℕ) × Bor (List ℕ)). p.0.now) ps

pub names_reported : (ps : List (Bor (List ℕ) × Bor (List ℕ))) (ms : NamedModules) → map deref_pair ps ≡ map name_and_version ms → first_names ps ≡ names_in ms
names_reported ps ms same = sym (of_pairs ps) ∙ (ap (map (λ (p : List ℕ × List ℕ). p.0)) same ∙ of_modules ms)
  where
    of_pairs : (ps : List (Bor (List ℕ) × Bor (List ℕ))) → map (λ (p : List ℕ × List ℕ). p.0) (map deref_pair ps) ≡ first_names ps
    of_pairs [] = refl
    of_pairs (p ∷ ps) = λ j. p.0.now ∷ of_pairs ps j

    of_modules : (ms : NamedModules) → map (λ (p : List ℕ × List ℕ). p.0) (map name_and_version ms) ≡ names_in ms
    of_modules [] = refl
    of_modules (m ∷ ms) = λ j. m.0 ∷ of_modules ms j

-- What is noted so far, with what is left of a row.
abbrev pub noted_with : Noted → List (List ℕ) → List ℕ → Bool
noted_with noted names q = is_noted noted q || is_among q names

-- one name more is noted
pub name_noted : (name : List ℕ) (rest : List (List ℕ)) (old new : Noted)
    → ((q : List ℕ) → get_by (λ k. slice_cmp nat_cmp q k.now) new ≡ cond (bytes_eq name q) (Some tt) (get_by (λ k. slice_cmp nat_cmp q k.now) old))
    → (q : List ℕ) → noted_with new rest q ≡ noted_with old (name ∷ rest) q
name_noted name rest old new is q =
    ap (λ o. is_some o || is_among q rest) (is q)
    ∙ (by (bytes_eq name q) (get_by (λ k. slice_cmp nat_cmp q k.now) old) ∙ ap (λ b. is_noted old q || (b || is_among q rest)) (nat_list_eq_equiv.symm name q))
  where
    all : (a : Bool) → true ≡ (a || true)
    all true = refl
    all false = refl

    by : (b : Bool) (o : Option (Unit {0})) → (is_some (cond b (Some tt) o) || is_among q rest) ≡ (is_some o || (b || is_among q rest))
    by true o = all (is_some o)
    by false o = refl

-- With one module of a row noted, the notes and the rest of the row have the same names together as before.
pub pair_noted : (items : List (Bor (List ℕ) × Bor (List ℕ))) (i : ℕ) (d : Bor (List ℕ) × Bor (List ℕ)) → i < length items → (total : List ℕ → Bool) (old new : Noted)
    → ((q : List ℕ) → get_by (λ k. slice_cmp nat_cmp q k.now) new ≡ cond (bytes_eq (get_or items i d).0.now q) (Some tt) (get_by (λ k. slice_cmp nat_cmp q k.now) old))
    → ((q : List ℕ) → noted_with old (first_names (drop i items)) q ≡ total q) → (q : List ℕ) → noted_with new (first_names (drop (i + 1) items)) q ≡ total q
pair_noted items i d inside total old new is so_far q =
    name_noted (get_or items i d).0.now (first_names (drop (i + 1) items)) old new is q
    ∙ (sym (ap (λ l. noted_with old (first_names l) q) (drop_more items i d inside)) ∙ so_far q)

module _ (script : List Instr) (i : ℕ) (x : Instr) (inside : i < length script) (at : x ≡ get_or script i x) (total : List ℕ → Bool) where
  part : script_of (drop i script) ≡ instruction_of x ∷ script_of (drop (i + 1) script)
  part = ap script_of (drop_more script i x inside ∙ ap (λ y. y ∷ drop (i + 1) script) (sym at))

  pub load_noted : (p : PurgingForm) → instruction_of x ≡ load p → (name : List ℕ) → name ≡ p.name → (old new : Noted)
      → ((q : List ℕ) → get_by (λ k. slice_cmp nat_cmp q k.now) new ≡ cond (bytes_eq name q) (Some tt) (get_by (λ k. slice_cmp nat_cmp q k.now) old))
      → ((q : List ℕ) → noted_with old (names_loaded (script_of (drop i script))) q ≡ total q) → (q : List ℕ) → noted_with new (names_loaded (script_of (drop (i + 1) script))) q ≡ total q
  load_noted p loads name named old new is so_far q =
      name_noted name (names_loaded (script_of (drop (i + 1) script))) old new is q
      ∙ (ap (λ n. noted_with old (n ∷ names_loaded (script_of (drop (i + 1) script))) q) named
      ∙ (sym (ap (λ l. noted_with old (names_loaded l) q) (part ∙ ap (λ j. j ∷ script_of (drop (i + 1) script)) loads)) ∙ so_far q))

  pub none_noted : ((p : Purging) → x ≡ Load p → ⊥) → (noted : Noted)
      → ((q : List ℕ) → noted_with noted (names_loaded (script_of (drop i script))) q ≡ total q) → (q : List ℕ) → noted_with noted (names_loaded (script_of (drop (i + 1) script))) q ≡ total q
  none_noted other noted so_far q = sym (ap (λ l. noted_with noted l q) (ap names_loaded part ∙ by x other)) ∙ so_far q
    where
      by : (y : Instr) → ((p : Purging) → y ≡ Load p → ⊥) → names_loaded (instruction_of y ∷ script_of (drop (i + 1) script)) ≡ names_loaded (script_of (drop (i + 1) script))
      by (Load p) other = absurd (other p refl)
      by y other = refl

-- the stale ones among names
among_stale : (test : List ℕ → Bool) (q : List ℕ) (names : List (List ℕ)) → is_among q (filter test names) ≡ (is_among q names && test q)
among_stale test q [] = refl
among_stale test q (n ∷ ns) = by (test n) refl (bytes_eq q n) refl (among_stale test q ns)
  where
    by : (t : Bool) → test n ≡ t → (b : Bool) → bytes_eq q n ≡ b → is_among q (filter test ns) ≡ (is_among q ns && test q)
        → is_among q (cond t (n ∷ filter test ns) (filter test ns)) ≡ ((b || is_among q ns) && test q)
    by true is true same later = ap (λ b. b || is_among q (filter test ns)) same ∙ sym (ap test ((bytes_eq-Decides q n).0 same) ∙ is)
    by true is false same later = ap (λ b. b || is_among q (filter test ns)) same ∙ later
    by false is true same later =
        let not_here : test q ≡ false = ap test ((bytes_eq-Decides q n).0 same) ∙ is in
        later ∙ (ap (λ t. is_among q ns && t) not_here ∙ (none (is_among q ns) ∙ sym not_here))
      where
        none : (r : Bool) → (r && false) ≡ false
        none true = refl
        none false = refl
    by false is false same later = later

-- The names of three rows that are noted one after another are those of all, in their order.
pub all_noted : (first second third : List (List ℕ)) (none some more all : Noted) (names : List (List ℕ)) → none.entries ≡ []
    → NotesNames first none some → NotesNames second some more → NotesNames third more all → AreNamesWith (is_noted all) names → names ≡ sorted_names (first ++ (second ++ third))
all_noted first second third none some more all names empty one two three are =
    let row : List (List ℕ) = first ++ (second ++ third) in
    names_determined (λ q. is_among q row) names (sorted_names row) (record { ordered = are.ordered; same = λ q. are.same q ∙ same q }) (sorted_are_names row)
  where
    joined : (a b c : Bool) → (((false || a) || b) || c) ≡ (a || (b || c))
    joined true b c = refl
    joined false b c = refl

    same : (q : List ℕ) → is_noted all q ≡ is_among q (first ++ (second ++ third))
    same q =
        three q
        ∙ (ap (λ n. n || is_among q third) (two q ∙ ap (λ n. n || is_among q second) (one q))
        ∙ (ap (λ es. ((is_some (lookup (λ k. is_eq (slice_cmp nat_cmp q k.now)) es) || is_among q first) || is_among q second) || is_among q third) empty
        ∙ (joined (is_among q first) (is_among q second) (is_among q third)
        ∙ (ap (λ n. is_among q first || n) (sym (list_any-append (bytes_eq q) second third)) ∙ sym (list_any-append (bytes_eq q) first (second ++ third))))))

-- a module of which there is a version is among those that are loaded
versioned : (name : List ℕ) (ms : NamedModules) → is_some (version_in name ms) ≡ true → is_among name (names_in ms) ≡ true
versioned name [] there = absurd (cc there)
versioned name (m ∷ ms) there = by (bytes_eq name m.0) there (versioned name ms)
  where
    by : (b : Bool) → is_some (option_map (λ (n : Module). n.vsn) (cond b (Some m.1) (module_named name ms))) ≡ true → (is_some (version_in name ms) ≡ true → is_among name (names_in ms) ≡ true)
        → (b || is_among name (names_in ms)) ≡ true
    by true there later = refl
    by false there later = later there

-- one that is stale is loaded, or the release has it
stale_somewhere : (loaded target : NamedModules) (name : List ℕ) → is_stale loaded target name ≡ true → is_among name (names_in loaded ++ names_in target) ≡ true
stale_somewhere loaded target name stale =
    list_any-append (bytes_eq name) (names_in loaded) (names_in target) ∙ by (version_in name loaded) (version_in name target) stale (versioned name loaded) (versioned name target)
  where
    either : (a : Bool) → (a || true) ≡ true
    either true = refl
    either false = refl

    by : (a b : Option (List ℕ)) → not (same_version a b) ≡ true → (is_some a ≡ true → is_among name (names_in loaded) ≡ true) → (is_some b ≡ true → is_among name (names_in target) ≡ true)
        → (is_among name (names_in loaded) || is_among name (names_in target)) ≡ true
    by None None stale here there = absurd (cc stale)
    by (Some a) b stale here there = ap (λ n. n || is_among name (names_in target)) (here refl)
    by None (Some b) stale here there = ap (λ n. is_among name (names_in loaded) || n) (there refl) ∙ either (is_among name (names_in loaded))

-- The stale ones among names are the stale modules, where what is loaded is among them, and what the release has.
pub stale_are : (loaded target : NamedModules) (names : List (List ℕ))
    → ((q : List ℕ) → is_among q (names_in loaded) ≡ true → is_among q names ≡ true) → ((q : List ℕ) → is_among q (names_in target) ≡ true → is_among q names ≡ true)
    → filter (is_stale loaded target) (sorted_names names) ≡ sorted_names (filter (is_stale loaded target) (names_in loaded ++ names_in target))
stale_are loaded target names here there =
    let test : List ℕ → Bool = is_stale loaded target in
    let row : List (List ℕ) = names_in loaded ++ names_in target in
    let all = sorted_are_names names in
    names_determined (λ q. is_among q (filter test row)) (filter test (sorted_names names)) (sorted_names (filter test row))
    (record { ordered = IsStrictlySortedBy-filter (slice_cmp nat_cmp) test (sorted_names names) all.ordered; same = λ q. among_stale test q (sorted_names names) ∙ (ap (λ b. b && test q) (all.same q) ∙ (same q ∙ sym (among_stale test q row))) })
    (sorted_are_names (filter test row))
  where
    both : (a b : Bool) → a ≡ true → b ≡ true → (a && true) ≡ (b && true)
    both a b one other = ap (λ x. x && true) (one ∙ sym other)

    none : (a b : Bool) → (a && false) ≡ (b && false)
    none true true = refl
    none true false = refl
    none false true = refl
    none false false = refl

    among : (q : List ℕ) → is_among q (names_in loaded ++ names_in target) ≡ true → is_among q names ≡ true
    among q is = by (is_among q (names_in loaded)) refl (sym (list_any-append (bytes_eq q) (names_in loaded) (names_in target)) ∙ is)
      where
        by : (b : Bool) → is_among q (names_in loaded) ≡ b → (b || is_among q (names_in target)) ≡ true → is_among q names ≡ true
        by true is _ = here q is
        by false is later = there q later

    same : (q : List ℕ) → (is_among q names && is_stale loaded target q) ≡ (is_among q (names_in loaded ++ names_in target) && is_stale loaded target q)
    same q = by (is_stale loaded target q) refl
      where
        by : (t : Bool) → is_stale loaded target q ≡ t → (is_among q names && t) ≡ (is_among q (names_in loaded ++ names_in target) && t)
        by true is = let somewhere = stale_somewhere loaded target q is in both (is_among q names) (is_among q (names_in loaded ++ names_in target)) (among q somewhere) somewhere
        by false is = none (is_among q names) (is_among q (names_in loaded ++ names_in target))

-- what is so of each answer
pub if_ok : {T E : Type 0} (P Q : T → Type 0) (r : Result T E) → IfOk r P → ((x : T) → P x → Q x) → IfOk r Q
if_ok P Q (Ok x) p so = so x p
if_ok P Q (Err e) p so = tt

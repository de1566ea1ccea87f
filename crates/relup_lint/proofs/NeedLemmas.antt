-- A script of which nothing is refused has what its names need.
use Rattle.std.proofs.Common.{◌≡◌, ◌+◌, ℕ, Bool, true, false, not, ◌||◌, cond, List, [], ◌∷◌, ◌++◌, map, filter, Some, refl, sym, ap, ◌∙◌}
use Rattle.std.specs.List.{AllByRecursion, list_any}
use Rattle.std.specs.Map.{lookup}
use Rattle.std.specs.Option.{is_some}
use Rattle.std.specs.Str.{bytes_eq}
use Rattle.relup_lint.specs.declared.parts.Part.{Part}
use Rattle.relup_lint.specs.declared.parts.Part.TheVariants.{Changed, Fetched, Suspended, Resumed, Stopped, Started}
use Rattle.relup_lint.specs.Script.{PlacedForm, TargetForm, ScriptForm}
use Rattle.relup_lint.specs.Parts.{names_of, changed_names, needed_part, needing_names, names_without_time}
use Rattle.relup_lint.specs.Findings.{mentions, of_part, places, placed_names, is_missing, changed_before, refusal_without, finding, findings_at, findings_from}
use Rattle.relup_lint.specs.Findings.RefusalForm.{no_time, not_alone}
use Rattle.relup_lint.specs.Laws.{has_name, HasWhatItNeeds, NeedsNothing}

-- nothing is left of two lists
nothing_left : {A : Type 0} (xs ys : List A) → xs ++ ys ≡ [] → (xs ≡ []) × (ys ≡ [])
nothing_left [] ys e = (refl, e)
nothing_left (x ∷ xs) ys e = absurd cc

nothing_mapped : {A B : Type 0} (f : A → B) (xs : List A) → map f xs ≡ [] → xs ≡ []
nothing_mapped f [] e = refl
nothing_mapped f (x ∷ xs) e = absurd cc

found_in_both : (name : List ℕ) (xs ys : List (List ℕ × ℕ))
    → is_some (lookup (bytes_eq name) (xs ++ ys)) ≡ (is_some (lookup (bytes_eq name) xs) || is_some (lookup (bytes_eq name) ys))
found_in_both name [] ys = refl
found_in_both name (x ∷ xs) ys = go (bytes_eq name x.0) (found_in_both name xs ys)
  where
    go : (b : Bool) → is_some (lookup (bytes_eq name) (xs ++ ys)) ≡ (is_some (lookup (bytes_eq name) xs) || is_some (lookup (bytes_eq name) ys))
        → is_some (cond b (Some x.1) (lookup (bytes_eq name) (xs ++ ys))) ≡ (is_some (cond b (Some x.1) (lookup (bytes_eq name) xs)) || is_some (lookup (bytes_eq name) ys))
    go true later = refl
    go false later = later

found_at_place : (name : List ℕ) (n : ℕ) (ms : List (List ℕ)) → is_some (lookup (bytes_eq name) (placed_names n ms)) ≡ list_any (bytes_eq name) ms
found_at_place name n [] = refl
found_at_place name n (m ∷ ms) = go (bytes_eq name m) (found_at_place name n ms)
  where
    go : (b : Bool) → is_some (lookup (bytes_eq name) (placed_names n ms)) ≡ list_any (bytes_eq name) ms
        → is_some (cond b (Some n) (lookup (bytes_eq name) (placed_names n ms))) ≡ (b || list_any (bytes_eq name) ms)
    go true later = refl
    go false later = later

-- a name is found exactly where an instruction has it
found_where : (part : Part) (ts : List TargetForm) (name : List ℕ) (n : ℕ) (ps : List PlacedForm)
    → is_some (lookup (bytes_eq name) (places part ts n ps)) ≡ list_any (has_name part ts name) ps
found_where part ts name n [] = refl
found_where part ts name n (p ∷ ps) =
    found_in_both name (placed_names n (names_of part ts p.instr)) (places part ts (n + 1) ps)
    ∙ ap (λ b. b || is_some (lookup (bytes_eq name) (places part ts (n + 1) ps))) (found_at_place name n (names_of part ts p.instr))
    ∙ ap (λ b. list_any (bytes_eq name) (names_of part ts p.instr) || b) (found_where part ts name (n + 1) ps)

of_the_part : (part : Part) (s : ScriptForm) → of_part part (mentions s) ≡ places part s.target 0 s.instrs
of_the_part Changed s = refl
of_the_part Fetched s = refl
of_the_part Suspended s = refl
of_the_part Resumed s = refl
of_the_part Stopped s = refl
of_the_part Started s = refl

-- none is missing
none_missing : (s : ScriptForm) (part : Part) (names : List (List ℕ)) → filter (is_missing (mentions s) part) names ≡ []
    → AllByRecursion (λ (name : List ℕ). list_any (has_name part s.target name) s.instrs ≡ true) names
none_missing s part [] e = tt
none_missing s part (name ∷ names) e =
    go (is_some (lookup (bytes_eq name) (of_part part (mentions s)))) refl e (λ k. none_missing s part names k)
  where
    there : is_some (lookup (bytes_eq name) (of_part part (mentions s))) ≡ list_any (has_name part s.target name) s.instrs
    there = ap (λ rows. is_some (lookup (bytes_eq name) rows)) (of_the_part part s) ∙ found_where part s.target name 0 s.instrs

    Rest : Type 0
    Rest = AllByRecursion (λ (m : List ℕ). list_any (has_name part s.target m) s.instrs ≡ true) names

    go : (b : Bool) → is_some (lookup (bytes_eq name) (of_part part (mentions s))) ≡ b
        → cond (not b) (name ∷ filter (is_missing (mentions s) part) names) (filter (is_missing (mentions s) part) names) ≡ []
        → (filter (is_missing (mentions s) part) names ≡ [] → Rest)
        → (list_any (has_name part s.target name) s.instrs ≡ true) × Rest
    go true is left rest = (sym there ∙ is, rest left)
    go false is left rest = absurd cc

-- of an instruction of which nothing is refused
one_has : (s : ScriptForm) (n : ℕ) (p : PlacedForm) → findings_at (mentions s) n p ≡ [] → HasWhatItNeeds s p
one_has s n p e =
    let part = needed_part p.instr in
    let first = nothing_left (map (λ (m : List ℕ). finding p (no_time m)) (names_without_time p.instr)) _ e in
    let second = nothing_left (map (λ (m : List ℕ). finding p (not_alone m)) (filter (changed_before (mentions s) n) (changed_names s.target p.instr))) _ first.1 in
    let third = nothing_left (map (λ (m : List ℕ). finding p (refusal_without part m)) (filter (is_missing (mentions s) part) (needing_names p.instr))) _ second.1 in
    none_missing s part (needing_names p.instr) (nothing_mapped (λ (m : List ℕ). finding p (refusal_without part m)) _ third.0)

each_has : (s : ScriptForm) (n : ℕ) (ps : List PlacedForm) → findings_from (mentions s) n ps ≡ [] → AllByRecursion (HasWhatItNeeds s) ps
each_has s n [] e = tt
each_has s n (p ∷ ps) e =
    let both = nothing_left (findings_at (mentions s) n p) (findings_from (mentions s) (n + 1) ps) e in
    (one_has s n p both.0, each_has s (n + 1) ps both.1)

pub needs_nothing : NeedsNothing
needs_nothing s e = each_has s 0 s.instrs e

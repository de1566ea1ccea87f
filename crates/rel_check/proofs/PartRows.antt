-- What is found of parts one after another.
use Rattle.std.proofs.Common.{◌≡◌, ℕ, ◌++◌, List, [], ◌∷◌, Option, None, Some, sym, ap, ◌∙◌, append_assoc}
use Rattle.std.specs.List.{flat_map}
use Rattle.std.specs.Option.{option_or}
use Rattle.std.proofs.lemmas.List.{append-nil, map-append}
use Rattle.rel_files.specs.Release.{Application}
use Rattle.mod_table.specs.File.{ids_of}
use Rattle.library.specs.Library.{Library, TableTerm, tables_there}
use Rattle.rel_check.specs.Modules.{Part, parts}
use Rattle.rel_check.specs.Names.{Named, named_by, ids_in, first_again, first_id_again, child_ids}

-- no application is left
pub parts_all : (before : List Application) (ls : List Library) (old whole : List Part) → before ≡ [] → old ++ parts before ls ≡ whole → old ≡ whole
parts_all before ls old whole none so_far = sym (append-nil old) ∙ (ap (λ (as' : List Application). old ++ parts as' ls) (sym none) ∙ so_far)

-- what each part adds
pub adds_more : {P M : Type 0} (each : P → List M) (before : List P) (p : P) (later : List P) (old new whole : List M) → before ≡ p ∷ later
    → new ≡ old ++ each p → old ++ flat_map each before ≡ whole → new ++ flat_map each later ≡ whole
adds_more {P} {M} each before p later old new whole split grown so_far =
    ap (λ (front : List M). front ++ flat_map each later) grown
    ∙ (append_assoc old (each p) (flat_map each later) ∙ (ap (λ (ps : List P). old ++ flat_map each ps) (sym split) ∙ so_far))

-- no part is left that adds something
pub adds_all : {P M : Type 0} (each : P → List M) (before : List P) (old whole : List M) → before ≡ [] → old ++ flat_map each before ≡ whole → old ≡ whole
adds_all {P} each before old whole none so_far = sym (append-nil old) ∙ (ap (λ (ps : List P). old ++ flat_map each ps) (sym none) ∙ so_far)

-- an id stands again in the next application
pub id_here : (before : List Part) (p : Part) (later : List Part) (n : Named) (whole : Option Named) → before ≡ p ∷ later
    → Some n ≡ first_again (child_ids p) → first_id_again before ≡ whole → Some n ≡ whole
id_here before p later n whole split here so_far =
    ap (λ (o : Option Named). option_or o (first_id_again later)) here ∙ (ap first_id_again (sym split) ∙ so_far)

-- or only after it
pub id_later : (before : List Part) (p : Part) (later : List Part) (whole : Option Named) → before ≡ p ∷ later
    → None ≡ first_again (child_ids p) → first_id_again before ≡ whole → first_id_again later ≡ whole
id_later before p later whole split none so_far =
    ap (λ (o : Option Named). option_or o (first_id_again later)) none ∙ (ap first_id_again (sym split) ∙ so_far)

-- the ids of the next table
pub ids_more : (a : Application) (before : List (Option TableTerm)) (t : TableTerm) (later : List (Option TableTerm)) (old new whole : List Named)
    → before ≡ Some t ∷ later → new ≡ old ++ named_by a (ids_of t.table) → old ++ named_by a (ids_in (tables_there before)) ≡ whole
    → new ++ named_by a (ids_in (tables_there later)) ≡ whole
ids_more a before t later old new whole split grown so_far =
    let name : List ℕ → Named = λ n. record { name = n; app = a } in
    let here = named_by a (ids_of t.table) in
    let rest = named_by a (ids_in (tables_there later)) in
    ap (λ (front : List Named). front ++ rest) grown
    ∙ (append_assoc old here rest
    ∙ (ap (λ (ns : List Named). old ++ ns) (sym (map-append name (ids_of t.table) (ids_in (tables_there later))))
    ∙ (ap (λ (ts : List (Option TableTerm)). old ++ named_by a (ids_in (tables_there ts))) (sym split) ∙ so_far)))

-- a module without a table has no ids
pub ids_same : (a : Application) (before later : List (Option TableTerm)) (old whole : List Named) → before ≡ None ∷ later
    → old ++ named_by a (ids_in (tables_there before)) ≡ whole → old ++ named_by a (ids_in (tables_there later)) ≡ whole
ids_same a before later old whole split so_far =
    ap (λ (ts : List (Option TableTerm)). old ++ named_by a (ids_in (tables_there ts))) (sym split) ∙ so_far

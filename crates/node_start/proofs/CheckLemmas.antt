-- What passed the tests of a release starts.
use Rattle.std.proofs.Common.{◌≡◌, ℕ, zero, suc, ◌+◌, Bool, true, List, [], ◌∷◌, ◌++◌, length, nat_le, Option, Some, None, refl, ap, sym, ◌∙◌, length-append}
use Rattle.std.specs.List.{flat_map, list_all, sum_by}
use Rattle.std.specs.Option.{option_or, option_map_or}
use Rattle.std.proofs.lemmas.List.Sums.{sum_by-cons}
use Rattle.std.proofs.lemmas.List.Concat.{flat_map-append}
use Rattle.mod_table.specs.declared.table.Table.{Table}
use Rattle.mod_table.specs.declared.table.Table.TheVariants.{Worker, Super}
use Rattle.worker_table.specs.Table.{WorkerTable}
use Rattle.mod_table.specs.Table.{ChildSpec, SuperTable}
use Rattle.mod_table.specs.Tables.{Tables, first_of, child_table}
use Rattle.rel_check.specs.Walk.{missing_at, missing_below, processes_from, is_within}
use Rattle.app_members.specs.Walk.{NewMember, StartFault, child_fault, children_fault, child_members, children_members, start_in, starts_among}
use Rattle.node_start.specs.Laws.{CheckedStarts}
use Rattle.app_members.proofs.WalkLemmas.{or_none}
use Rattle.rel_files.proofs.Options.{both}

-- a worker is one process
one_worker : (n : ℕ) (tables : Tables) (w : WorkerTable) → processes_from n tables (Worker w) ≡ 1
unfolding processes_from
one_worker zero tables w = refl
one_worker (suc n) tables w = refl

-- a child, by what is known of the supervisors below it
Passed : ℕ → Tables → Type 0
Passed n tables = (s : SuperTable) (depth : ℕ) → missing_below n tables (Super s) ≡ None → is_within n tables (Super s) ≡ true
    → (children_fault n tables s.children ≡ None)
    × (length (starts_among (children_members n tables depth s.children)) ≡ processes_from n tables (Super s))

child_passed : (n : ℕ) (tables : Tables) (depth : ℕ) → Passed n tables → (c : ChildSpec) (t : Option Table) → missing_at (missing_below n tables) c.start t ≡ None
    → option_map_or (is_within n tables) t true ≡ true
    → (child_fault (children_fault n tables) c t ≡ None)
    × (length (starts_among (child_members (children_members n tables (suc depth)) depth c t)) ≡ option_map_or (processes_from n tables) t 0)
unfolding Passed
child_passed n tables depth passed c None missing within = absurd cc
child_passed n tables depth passed c (Some (Worker w)) missing within = (refl, sym (one_worker n tables w))
child_passed n tables depth passed c (Some (Super s)) missing within = passed s (suc depth) missing within

-- the processes of two groups of members
both_start : (xs ys : List NewMember) → length (starts_among (xs ++ ys)) ≡ length (starts_among xs) + length (starts_among ys)
both_start xs ys = ap length (flat_map-append (λ (x : NewMember). start_in x.child x.table) xs ys) ∙ length-append (starts_among xs) (starts_among ys)

-- children, by what is known of each
children_passed : {C : Type 0} (missing : C → Option (List ℕ)) (within : C → Bool) (fault : C → Option StartFault) (below : C → List NewMember) (processes : C → ℕ)
    → ((c : C) → missing c ≡ None → within c ≡ true → (fault c ≡ None) × (length (starts_among (below c)) ≡ processes c))
    → (cs : List C) → first_of missing cs ≡ None → list_all within cs ≡ true → (first_of fault cs ≡ None) × (length (starts_among (flat_map below cs)) ≡ sum_by processes cs)
children_passed missing within fault below processes each [] none all = (refl, refl)
children_passed missing within fault below processes each (c ∷ cs) none all =
    let here = or_none (missing c) (first_of missing cs) none in
    let parts = both (within c) (list_all within cs) all in
    let passed = each c here.0 parts.0 in
    let later = children_passed missing within fault below processes each cs here.1 parts.1 in (
      ap (λ o. option_or o (first_of fault cs)) passed.0 ∙ later.0,
      both_start (below c) (flat_map below cs) ∙ ((λ j. passed.1 j + later.1 j) ∙ sym (sum_by-cons processes c cs)),
    )

all_passed : (n : ℕ) (tables : Tables) → Passed n tables
unfolding Passed children_fault children_members missing_below processes_from is_within
all_passed zero tables s depth missing within = absurd cc
all_passed (suc n) tables s depth missing within =
    children_passed (λ (c : ChildSpec). missing_at (missing_below n tables) c.start (child_table tables c)) (λ (c : ChildSpec). option_map_or (is_within n tables) (child_table tables c) true)
    (λ (c : ChildSpec). child_fault (children_fault n tables) c (child_table tables c)) (λ (c : ChildSpec). child_members (children_members n tables (suc depth)) depth c (child_table tables c))
    (λ (c : ChildSpec). option_map_or (processes_from n tables) (child_table tables c) 0)
    (λ c. child_passed n tables depth (all_passed n tables) c (child_table tables c)) s.children missing (both (nat_le (length s.children) 64) _ within).1

pub checked_starts : CheckedStarts
unfolding Passed
checked_starts n tables s depth missing within = all_passed n tables s depth missing within

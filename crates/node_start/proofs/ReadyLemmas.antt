-- A release that passed the tests can be started.
use Rattle.std.proofs.Common.{◌≡◌, ℕ, zero, suc, ◌+◌, ◌≤◌, Bool, true, false, cond, List, [], ◌∷◌, length, map, Option, Some, None, Contains, is_some, if◌then◌else◌, refl, ap, sym, subst, ◌∙◌, ◌⊎◌, inl, inr, arith}
use Rattle.std.specs.List.{AllByRecursion, filter, list_all, sum_by}
use Rattle.std.specs.Option.{option_map, option_or, option_and_then, option_map_or}
use Rattle.std.specs.Str.{bytes_eq}
use Rattle.std.proofs.lemmas.Bool.{leb-true}
use Rattle.std.proofs.lemmas.List.Sums.{sum_by-cons}
use Rattle.std.proofs.lemmas.Slice.Eq.{bytes_eq-Decides}
use Rattle.mod_table.specs.declared.child.ChildKind.TheVariants as kind
use Rattle.mod_table.specs.declared.table.Table.{Table}
use Rattle.mod_table.specs.declared.table.Table.TheVariants.{Worker, Super}
use Rattle.library.specs.Library.{Library, AreLibrariesOf}
use Rattle.proc_table.specs.Agrees.{slots}
use Rattle.proc_table.specs.Free.{free_below}
use Rattle.proc_table.specs.Views.{handler_view}
use Rattle.proc_table.proofs.Slots.{slots_is}
use Rattle.rel_files.specs.Name.{AreDistinct}
use Rattle.rel_files.specs.Release.{Application}
use Rattle.rel_check.specs.Fault.{release_fault, first_fault, keeps_limits, few_modules_in, has_few_rows}
use Rattle.rel_check.specs.Fault.Fault.{module_twice, id_twice, no_table, too_many}
use Rattle.rel_check.specs.Modules.{Part, parts, modules_in}
use Rattle.mod_table.specs.Tables.{Tables, first_of, of_kind}
use Rattle.rel_check.specs.Names.{first_module_again, first_id_again}
use Rattle.rel_check.specs.Walk.{is_started, top_of, missing_from, part_missing, part_processes, part_is_within, first_missing, processes_in, are_within, processes_from, is_within}
use Rattle.rel_check.specs.Walk as walk
use Rattle.rel_check.proofs.Members.{first_member, later_member, member_cases}
use Rattle.app_members.specs.Walk.{StartFault, app_fault, app_starts, children_fault, members_at_top, starts_among, super_children, top_fault}
use Rattle.app_members.proofs.AppLemmas.{no_children}
use Rattle.app_members.proofs.WalkLemmas.{or_none}
use Rattle.started_members.proofs.BeginLemmas.{first_slots}
use Rattle.node_start.proofs.CheckLemmas.{checked_starts}
use Rattle.node_processes.specs.Fresh.{part_starts, started_parts, tables_in}
use Rattle.node_start.specs.Starting.{AreReady, HasNoFault, IsNew, part_name, starts_in_all}
use Rattle.node_start.proofs.TableLemmas.{same_tables}
use Rattle.rel_files.proofs.Options.{both}

nothing_mapped : {X Y : Type 0} (f : X → Y) (o : Option X) → option_map f o ≡ None → o ≡ None
nothing_mapped f None is = refl
nothing_mapped f (Some x) is = absurd cc

kept_so : (b : Bool) → (if b then None else Some too_many) ≡ None → b ≡ true
kept_so true is = refl
kept_so false is = absurd cc

-- what a release without fault has
record Passed (ps : List Part) : Type 0 where
  apart : first_module_again ps ≡ None
  none_missing : first_missing ps ≡ None
  within : are_within ps ≡ true
  few : processes_in ps ≤ 256

passed : (ps : List Part) → first_fault ps ≡ None → Passed ps
passed ps none =
    let modules = or_none (option_map module_twice (first_module_again ps)) _ none in
    let ids = or_none (option_map id_twice (first_id_again ps)) _ modules.1 in
    let missing = or_none (option_map no_table (first_missing ps)) _ ids.1 in
    let limits = both (list_all few_modules_in ps) _ (kept_so (keeps_limits ps) missing.1) in
    let rows = both (list_all has_few_rows (modules_in ps)) _ limits.1 in
    let depth = both (are_within ps) _ rows.1 in record {
      apart = nothing_mapped module_twice (first_module_again ps) modules.0;
      none_missing = nothing_mapped no_table (first_missing ps) missing.0;
      within = depth.0;
      few = leb-true (processes_in ps) 256 depth.1;
    }

abbrev fault_at : Tables → List ℕ → Option Table → Option StartFault
fault_at tables m t = option_or (top_fault m t) (children_fault 8 tables (super_children t))

abbrev top_supervisor : Option Table → Option Table
top_supervisor t = option_and_then (of_kind kind.Supervisor) t

-- so many there are from this table on, by what is counted of a table
abbrev counted_from : (Table → ℕ) → Option Table → ℕ
counted_from from t = option_map_or from (top_supervisor t) 0

-- an application whose top has this table, where it was tested from there
table_passed : (tables : Tables) (m : List ℕ) (t : Option Table) → missing_from tables m t ≡ None → option_map_or (is_within 8 tables) (top_supervisor t) true ≡ true
    → (fault_at tables m t ≡ None) × (length (starts_among (members_at_top tables m t)) ≡ counted_from (processes_from 8 tables) t)
table_passed tables m None missing within = (no_children tables, refl)
table_passed tables m (Some (Worker w)) missing within = absurd cc
table_passed tables m (Some (Super s)) missing within = checked_starts 8 tables s 1 missing within

top_passed : (tables : Tables) (top : Option (List ℕ)) → option_and_then (λ m. missing_from tables m (tables m)) top ≡ None
    → option_map_or (is_within 8 tables) (top_supervisor (option_and_then tables top)) true ≡ true
    → (app_fault tables top ≡ None) × (length (app_starts tables top) ≡ counted_from (processes_from 8 tables) (option_and_then tables top))
top_passed tables None missing within = (no_children tables, refl)
top_passed tables (Some m) missing within = table_passed tables m (tables m) missing within

-- an application that a boot starts
part_passed : (tables : Tables) (p : Part) → is_started p.app.start ≡ true → part_missing tables p ≡ None → part_is_within tables p ≡ true
    → HasNoFault tables p × (length (part_starts tables p) ≡ part_processes tables p)
part_passed tables p starts missing within =
    let top : top_of p ≡ p.library.app.top = ap (λ b. if b then p.library.app.top else None) starts in
    let found = top_passed tables p.library.app.top
    (subst (λ o. option_and_then (λ m. missing_from tables m (tables m)) o ≡ None) top missing)
    (subst (λ o. option_map_or (is_within 8 tables) (top_supervisor (option_and_then tables o)) true ≡ true) top within) in
    (found.0, found.1 ∙ ap (λ o. counted_from (processes_from 8 tables) (option_and_then tables o)) (sym top))

-- all that a boot starts
parts_passed : (tables : Tables) (ps : List Part) → first_of (part_missing tables) ps ≡ None → list_all (part_is_within tables) ps ≡ true
    → AllByRecursion (HasNoFault tables) (started_parts ps) × (starts_in_all tables (started_parts ps) ≤ sum_by (part_processes tables) ps)
parts_passed tables [] missing within = (tt, omega arith)
parts_passed tables (p ∷ ps) missing within =
    let here = or_none (part_missing tables p) (first_of (part_missing tables) ps) missing in
    let deep = both (part_is_within tables p) (list_all (part_is_within tables) ps) within in
    go (is_started p.app.start) (λ starts. part_passed tables p starts here.0 deep.0) (parts_passed tables ps here.1 deep.1)
    (sum_by-cons (part_processes tables) p ps)
  where
    go : (b : Bool) → (b ≡ true → HasNoFault tables p × (length (part_starts tables p) ≡ part_processes tables p))
        → AllByRecursion (HasNoFault tables) (started_parts ps) × (starts_in_all tables (started_parts ps) ≤ sum_by (part_processes tables) ps)
        → sum_by (part_processes tables) (p ∷ ps) ≡ part_processes tables p + sum_by (part_processes tables) ps
        → AllByRecursion (HasNoFault tables) (cond b (p ∷ started_parts ps) (started_parts ps))
        × (starts_in_all tables (cond b (p ∷ started_parts ps) (started_parts ps)) ≤ sum_by (part_processes tables) (p ∷ ps))
    go true own rest sum =
        let mine = own refl in
        let more = sum_by-cons (λ q. length (part_starts tables q)) p (started_parts ps) in
        ((mine.0, rest.0), omega (arith, mine.1, more, rest.1, sum))
    go false own rest sum = (rest.0, omega (arith, rest.1, sum))

-- what is left of names that are distinct
contains_kept : {X : Type 0} (f : X → List ℕ) (test : X → Bool) (xs : List X) (n : List ℕ) → Contains (map f (filter test xs)) n → Contains (map f xs) n
contains_kept f test [] n within = within
contains_kept f test (x ∷ xs) n within = go (test x) (contains_kept f test xs n) within
  where
    go : (b : Bool) → (Contains (map f (filter test xs)) n → Contains (map f xs) n) → Contains (map f (cond b (x ∷ filter test xs) (filter test xs))) n → Contains (map f (x ∷ xs)) n
    go false later within = later_member (f x) (map f xs) n (later within)
    go true later within = here (member_cases (f x) (map f (filter test xs)) n within) later
      where
        here : (f x ≡ n) ⊎ Contains (map f (filter test xs)) n → (Contains (map f (filter test xs)) n → Contains (map f xs) n) → Contains (map f (x ∷ xs)) n
        here (inl same) later = subst (Contains (map f (x ∷ xs))) same (first_member (f x) (map f xs))
        here (inr behind) later = later_member (f x) (map f xs) n (later behind)

distinct_kept : {X : Type 0} (f : X → List ℕ) (test : X → Bool) (xs : List X) → AreDistinct (map f xs) → AreDistinct (map f (filter test xs))
distinct_kept f test [] distinct = tt
distinct_kept f test (x ∷ xs) distinct = go (test x) (λ within. distinct.0 (contains_kept f test xs (f x) within)) (distinct_kept f test xs distinct.1)
  where
    go : (b : Bool) → (Contains (map f (filter test xs)) (f x) → ⊥) → AreDistinct (map f (filter test xs)) → AreDistinct (map f (cond b (x ∷ filter test xs) (filter test xs)))
    go true apart rest = (apart, rest)
    go false apart rest = rest

-- each library has the name of its application
part_names : (as' : List Application) (ls : List Library) → AreLibrariesOf as' ls → map part_name (parts as' ls) ≡ map (λ (a : Application). a.name) as'
part_names [] [] are = refl
part_names [] (l ∷ ls) are = absurd are
part_names (a ∷ as') [] are = absurd are
part_names (a ∷ as') (l ∷ ls) are =
    let name = both (bytes_eq l.app.name a.name) (bytes_eq l.app.vsn a.vsn) are.1 in
    (λ i. (bytes_eq-Decides l.app.name a.name).0 name.0 i ∷ part_names as' ls are.2 i)

-- in a new table as many processes can begin as it has slots
free_all : (n : ℕ) → n ≤ slots → free_below (handler_view slots) n ≡ n
free_all zero within = refl
free_all (suc n) within =
    let free = first_slots.0.from n (omega arith) (omega (arith, within)) in
    (λ i. free_all n (omega (arith, within)) i + (if is_some (free i) then 1 else 0)) ∙ (let e : n + 1 ≡ suc n = omega arith in e)

none_started : (ps : List Part) → AllByRecursion (IsNew []) ps
none_started [] = tt
none_started (p ∷ ps) = (refl, none_started ps)

-- A release that passed the tests can be started in a new table.
pub are_ready : (as' : List Application) (ls : List Library) → AreLibrariesOf as' ls → release_fault as' ls ≡ None → AreDistinct (map (λ (a : Application). a.name) as')
    → AreReady (tables_in ls) (started_parts (parts as' ls)) [] (handler_view slots)
are_ready as' ls are tested distinct =
    let ps = parts as' ls in
    let all = passed ps tested in
    let found = parts_passed (walk.tables_of ps) ps all.none_missing all.within in
    let same = sym (same_tables as' ls are all.apart) in
    let tested_so = subst (λ t. AllByRecursion (HasNoFault t) (started_parts ps) × (starts_in_all t (started_parts ps) ≤ processes_in ps)) same (found.0, found.1) in
    let few = all.few in
    let free = free_all slots (omega arith) in record {
      new = none_started (started_parts ps);
      distinct = distinct_kept part_name (λ (p : Part). is_started p.app.start) ps (subst AreDistinct (sym (part_names as' ls are)) distinct);
      sound = tested_so.0;
      room = let enough = tested_so.1 in omega (arith, enough, few, free, slots_is);
    }

-- What a release starts, and its first fault.
use Rattle.std.proofs.Common.{◌≡◌, ℕ, ◌<◌, ◌^◌, ◌-◌, true, ◌&&◌, List, nat_le, Option, None, Some, if◌then◌else◌, refl, sym, ap, ◌∙◌, zero-add, arith}
use Rattle.std.specs.List.{list_all, sum_by}
use Rattle.std.proofs.lemmas.Bool.Decides.{nat_tests}
use Rattle.std.specs.Option.{option_map, option_or, option_and_then, option_map_or}
use Rattle.mod_table.specs.declared.child.ChildKind.TheVariants as kind
use Rattle.mod_table.specs.declared.table.Table.{Table}
use Rattle.mod_table.specs.declared.table.Table.TheVariants.{Worker, Super}
use Rattle.rel_check.specs.Modules.{Part, Module, table_of, modules_in}
use Rattle.mod_table.specs.Tables.{Tables, first_of, of_kind}
use Rattle.rel_check.specs.Names.{Named, first_again, module_names, first_id_again}
use Rattle.rel_check.specs.Walk.{missing_from, processes_from, is_within, top_of, part_missing, part_processes, part_is_within, first_missing, processes_in, are_within}
use Rattle.rel_check.specs.Fault.{first_fault, keeps_limits, few_modules_in, has_few_rows}
use Rattle.rel_check.specs.Fault.Fault.{module_twice, id_twice, no_table, too_many}
use Rattle.rel_check.specs.Summary.{Summary, summary, counted, known_at, top_summary, top_summary_at, nothing_started, no_table_of, release_summary, limits_kept}
use Rattle.rel_check.proofs.Joins.{joined_missing, joined_number, joined_within}

-- a top module

missing_at_top : (tables : Tables) (m : List ℕ) (t : Option Table) → (top_summary_at m (option_map (summary 8 tables) t)).missing ≡ missing_from tables m t
missing_at_top tables m None = refl
missing_at_top tables m (Some (Worker w)) = refl
missing_at_top tables m (Some (Super s)) = refl

top_missing : (tables : Tables) (o : Option (List ℕ)) → (top_summary (known_at 8 tables) o).missing ≡ option_and_then (λ m. missing_from tables m (tables m)) o
top_missing tables None = refl
top_missing tables (Some m) = missing_at_top tables m (tables m)

-- a number of what is found, which is none where nothing starts
IsNumber : (Summary → ℕ) → (Table → ℕ) → Tables → Type 0
IsNumber number from tables = ((t : Table) → number (summary 8 tables t) ≡ counted (from t)) × (number nothing_started ≡ 0) × ((m : List ℕ) → number (no_table_of m) ≡ 0)

number_at_top : (number : Summary → ℕ) (from : Table → ℕ) (tables : Tables) → IsNumber number from tables → (m : List ℕ) (t : Option Table)
    → number (top_summary_at m (option_map (summary 8 tables) t)) ≡ counted (option_map_or from (option_and_then (of_kind kind.Supervisor) t) 0)
unfolding IsNumber
number_at_top number from tables (is, none, missing) m None = none
number_at_top number from tables (is, none, missing) m (Some (Worker w)) = missing m
number_at_top number from tables (is, none, missing) m (Some (Super s)) = is (Super s)

top_number : (number : Summary → ℕ) (from : Table → ℕ) (tables : Tables) → IsNumber number from tables → (o : Option (List ℕ))
    → number (top_summary (known_at 8 tables) o) ≡ counted (option_map_or from (option_and_then (of_kind kind.Supervisor) (option_and_then tables o)) 0)
unfolding IsNumber
top_number number from tables is None = is.1
top_number number from tables is (Some m) = number_at_top number from tables is m (tables m)

within_at_top : (tables : Tables) (m : List ℕ) (t : Option Table)
    → (top_summary_at m (option_map (summary 8 tables) t)).within ≡ option_map_or (is_within 8 tables) (option_and_then (of_kind kind.Supervisor) t) true
within_at_top tables m None = refl
within_at_top tables m (Some (Worker w)) = refl
within_at_top tables m (Some (Super s)) = refl

top_within : (tables : Tables) (o : Option (List ℕ))
    → (top_summary (known_at 8 tables) o).within ≡ option_map_or (is_within 8 tables) (option_and_then (of_kind kind.Supervisor) (option_and_then tables o)) true
top_within tables None = refl
top_within tables (Some m) = within_at_top tables m (tables m)

-- what a release starts

missing_is : (tables : Tables) (ps : List Part) → (release_summary (known_at 8 tables) ps).missing ≡ first_of (part_missing tables) ps
missing_is tables ps = joined_missing (λ (p : Part). top_summary (known_at 8 tables) (top_of p)) (part_missing tables) (λ p. top_missing tables (top_of p)) nothing_started ps

processes_are : (tables : Tables) (ps : List Part) → (release_summary (known_at 8 tables) ps).processes ≡ counted (sum_by (part_processes tables) ps)
unfolding IsNumber
processes_are tables ps =
    joined_number (λ s. s.processes) (λ s t. refl) (λ (p : Part). top_summary (known_at 8 tables) (top_of p)) (part_processes tables)
    (λ p. top_number (λ s. s.processes) (processes_from 8 tables) tables (λ t. refl, refl, λ m. refl) (top_of p)) nothing_started 0 ps refl
    ∙ ap counted (zero-add (sum_by (part_processes tables) ps))

within_is : (tables : Tables) (ps : List Part) → (release_summary (known_at 8 tables) ps).within ≡ list_all (part_is_within tables) ps
within_is tables ps = joined_within (λ (p : Part). top_summary (known_at 8 tables) (top_of p)) (part_is_within tables) (λ p. top_within tables (top_of p)) nothing_started ps

-- so many are counted
few_counted : (most n : ℕ) → most < 2 ^ 64 - 1 → nat_le (counted n) most ≡ nat_le n most
few_counted most n few = grind (arith, nat_tests)

-- the limits
limits_are : (ps : List Part) (ms : List Module) (s : Summary) → ms ≡ modules_in ps → s ≡ release_summary (known_at 8 (table_of ms)) ps → limits_kept ps ms s ≡ keeps_limits ps
limits_are ps ms s modules is =
    let all : s ≡ release_summary (known_at 8 (table_of (modules_in ps))) ps = is ∙ ap (λ (l : List Module). release_summary (known_at 8 (table_of l)) ps) modules in
    let within : s.within ≡ are_within ps = ap (λ (t : Summary). t.within) all ∙ within_is (table_of (modules_in ps)) ps in
    let processes : nat_le s.processes 256 ≡ nat_le (processes_in ps) 256 =
    ap (λ (t : Summary). nat_le t.processes 256) all
    ∙ (ap (λ n. nat_le n 256) (processes_are (table_of (modules_in ps)) ps) ∙ few_counted 256 (processes_in ps) (omega arith)) in
    λ j. list_all few_modules_in ps && (list_all has_few_rows (modules j) && (within j && processes j))

-- the first fault, from what each test finds
pub reported : (all ps : List Part) (ms : List Module) (a b : Option Named) (s : Summary) → ps ≡ all → ms ≡ modules_in ps
    → a ≡ first_again (module_names ms) → b ≡ first_id_again ps → s ≡ release_summary (known_at 8 (table_of ms)) ps
    → first_fault all
    ≡ option_or (option_map module_twice a) (option_or (option_map id_twice b) (option_or (option_map no_table s.missing) (if limits_kept ps ms s then None else Some too_many)))
reported all ps ms a b s are modules again ids is =
    let same : s ≡ release_summary (known_at 8 (table_of (modules_in ps))) ps = is ∙ ap (λ (l : List Module). release_summary (known_at 8 (table_of l)) ps) modules in
    let first : first_again (module_names (modules_in ps)) ≡ a = sym (again ∙ ap (λ (l : List Module). first_again (module_names l)) modules) in
    let second : first_id_again ps ≡ b = sym ids in
    let third : first_missing ps ≡ s.missing = sym (ap (λ (t : Summary). t.missing) same ∙ missing_is (table_of (modules_in ps)) ps) in
    let fourth : keeps_limits ps ≡ limits_kept ps ms s = sym (limits_are ps ms s modules is) in
    ap first_fault (sym are)
    ∙ (λ j. option_or (option_map module_twice (first j)) (option_or (option_map id_twice (second j)) (option_or (option_map no_table (third j)) (if fourth j then None else Some too_many))))

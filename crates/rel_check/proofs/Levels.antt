-- What is found from each table on, level by level.
use Rattle.std.proofs.Common.{◌≡◌, ℕ, suc, Bool, true, false, cond, List, ◌∷◌, map, Option, None, Some, if◌then◌else◌, refl, sym, ap, ◌∙◌, zero-add}
use Rattle.std.specs.List.{sum_by}
use Rattle.std.specs.Option.{option_map, option_or, option_and_then, option_map_or}
use Rattle.std.specs.Str.{bytes_eq}
use Rattle.mod_table.specs.declared.child.ChildKind.{ChildKind}
use Rattle.mod_table.specs.declared.child.ChildKind.TheVariants as kind
use Rattle.mod_table.specs.declared.table.Table.{Table}
use Rattle.mod_table.specs.declared.table.Table.TheVariants.{Worker, Super}
use Rattle.mod_table.specs.Table.{ChildSpec}
use Rattle.rel_check.specs.declared.walk.Walk.{Walk}
use Rattle.rel_check.specs.Modules.{Module, table_of}
use Rattle.mod_table.specs.Tables.{Tables, of_kind, child_table}
use Rattle.rel_check.specs.Walk.{missing_at, missing_below, processes_from, is_within}
use Rattle.rel_check.specs.Summary.{Summary, Known, summary, summary_of, counted, known_at, child_summary, child_summary_at, no_table_of, supervisor_alone, next_summary}
use Rattle.rel_check.proofs.Joins.{joined_kind, joined_missing, joined_number, joined_within}

-- a child, from what is found at its module

child_missing : (n : ℕ) (tables : Tables) (k : ChildKind) (m : List ℕ) (t : Option Table)
    → (child_summary_at k m (option_map (summary n tables) t)).missing ≡ missing_at (missing_below n tables) m (option_and_then (of_kind k) t)
child_missing n tables k m None = refl
child_missing n tables kind.Worker m (Some (Worker w)) = refl
child_missing n tables kind.Worker m (Some (Super s)) = refl
child_missing n tables kind.Supervisor m (Some (Worker w)) = refl
child_missing n tables kind.Supervisor m (Some (Super s)) = refl

child_number : (number : Summary → ℕ) (from : Table → ℕ) (n : ℕ) (tables : Tables) → ((t : Table) → number (summary n tables t) ≡ counted (from t))
    → ((m : List ℕ) → number (no_table_of m) ≡ 0) → (k : ChildKind) (m : List ℕ) (t : Option Table)
    → number (child_summary_at k m (option_map (summary n tables) t)) ≡ counted (option_map_or from (option_and_then (of_kind k) t) 0)
child_number number from n tables is none k m None = none m
child_number number from n tables is none kind.Worker m (Some (Worker w)) = is (Worker w)
child_number number from n tables is none kind.Worker m (Some (Super s)) = none m
child_number number from n tables is none kind.Supervisor m (Some (Worker w)) = none m
child_number number from n tables is none kind.Supervisor m (Some (Super s)) = is (Super s)

child_within : (n : ℕ) (tables : Tables) (k : ChildKind) (m : List ℕ) (t : Option Table)
    → (child_summary_at k m (option_map (summary n tables) t)).within ≡ option_map_or (is_within n tables) (option_and_then (of_kind k) t) true
child_within n tables k m None = refl
child_within n tables kind.Worker m (Some (Worker w)) = refl
child_within n tables kind.Worker m (Some (Super s)) = refl
child_within n tables kind.Supervisor m (Some (Worker w)) = refl
child_within n tables kind.Supervisor m (Some (Super s)) = refl

-- the lowest level
at_lowest : (tables : Tables) (t : Table) → next_summary None t ≡ summary 0 tables t
unfolding missing_below processes_from is_within
at_lowest tables (Worker w) = refl
at_lowest tables (Super s) = refl

-- one level above another
at_next : (n : ℕ) (tables : Tables) (known : Known) → ((q : List ℕ) → known q ≡ known_at n tables q) → (t : Table) → next_summary (Some known) t ≡ summary (suc n) tables t
unfolding missing_below processes_from is_within
at_next n tables known is (Worker w) = refl
at_next n tables known is (Super s) =
    let kinds = joined_kind (supervisor_alone s.children) (map (child_summary known) s.children) in
    let missing = joined_missing (child_summary known) (λ (c : ChildSpec). missing_at (missing_below n tables) c.start (child_table tables c))
    (λ c. ap (λ (o : Option Summary). (child_summary_at c.kind c.start o).missing) (is c.start) ∙ child_missing n tables c.kind c.start (tables c.start))
    (supervisor_alone s.children) s.children in
    let processes = joined_number (λ s. s.processes) (λ s t. refl) (child_summary known) (λ (c : ChildSpec). option_map_or (processes_from n tables) (child_table tables c) 0)
    (λ c. ap (λ (o : Option Summary). (child_summary_at c.kind c.start o).processes) (is c.start)
    ∙ child_number (λ s. s.processes) (processes_from n tables) n tables (λ t. refl) (λ m. refl) c.kind c.start (tables c.start))
    (supervisor_alone s.children) 0 s.children refl ∙ ap counted (zero-add (sum_by (λ (c : ChildSpec). option_map_or (processes_from n tables) (child_table tables c) 0) s.children)) in
    let within = joined_within (child_summary known) (λ (c : ChildSpec). option_map_or (is_within n tables) (child_table tables c) true)
    (λ c. ap (λ (o : Option Summary). (child_summary_at c.kind c.start o).within) (is c.start) ∙ child_within n tables c.kind c.start (tables c.start))
    (supervisor_alone s.children) s.children in
    λ j. record { kind = kinds j; missing = missing j; processes = processes j; within = within j }

-- the same of each module
pub lowest_level : (tables : Tables) (q : List ℕ) → option_map (next_summary None) (tables q) ≡ known_at 0 tables q
lowest_level tables q = λ j. option_map (λ t. at_lowest tables t j) (tables q)

pub level_above : (n : ℕ) (tables : Tables) (known : Known) → ((q : List ℕ) → known q ≡ known_at n tables q) → (q : List ℕ)
    → option_map (next_summary (Some known)) (tables q) ≡ known_at (suc n) tables q
level_above n tables known is q = λ j. option_map (λ t. at_next n tables known is t j) (tables q)

-- modules one after another: what is found of those that are left, or else what is known of those before them

or_each : (step : Table → Summary) (a b : Option Table) (o : Option Summary) → option_or (option_map step (option_or a b)) o ≡ option_or (option_map step a) (option_or (option_map step b) o)
or_each step None b o = refl
or_each step (Some t) b o = refl

pub one_more : (step : Table → Summary) (ms rest : List Module) (m : Module) (q : List ℕ) (old new r : Option Summary) → ms ≡ m ∷ rest
    → new ≡ option_or (option_map step (if bytes_eq m.name q then m.table else None)) old
    → option_or (option_map step (table_of ms q)) old ≡ r → option_or (option_map step (table_of rest q)) new ≡ r
one_more step ms rest m q old new r split is so_far =
    ap (option_or (option_map step (table_of rest q))) is
    ∙ (sym (or_each step (table_of rest q) (if bytes_eq m.name q then m.table else None) old)
    ∙ (ap (λ l. option_or (option_map step (table_of l q)) old) (sym split) ∙ so_far))

-- a module without a table
pub none_put : (step : Table → Summary) (b : Bool) (t : Option Table) (old : Option Summary) → t ≡ None → old ≡ option_or (option_map step (if b then t else None)) old
none_put step true t old is = ap (λ (o : Option Table). option_or (option_map step o) old) (sym is)
none_put step false t old is = refl

-- a module whose table is put into the map
pub some_put : (step : Table → Summary) (b : Bool) (t : Option Table) (table : Table) (walk : Walk) (found new : Option Walk) → t ≡ Some table → summary_of walk ≡ step table
    → new ≡ cond b (Some walk) found → option_map summary_of new ≡ option_or (option_map step (if b then t else None)) (option_map summary_of found)
some_put step true t table walk found new is at put =
    ap (option_map summary_of) put ∙ (ap Some at ∙ ap (λ (o : Option Table). option_or (option_map step o) (option_map summary_of found)) (sym is))
some_put step false t table walk found new is at put = ap (option_map summary_of) put

-- The tables of workers, from what is read of their members.
use Rattle.std.proofs.Common.{◌≡◌, ℕ, List, Option, Some, ap, ◌∙◌}
use Rattle.std.specs.Option.{option_map, option_and_then}
use Rattle.erl_term.specs.Value.{Value, Values}
use Rattle.rel_files.specs.Parts.{list_in, four}
use Rattle.rel_files.specs.Sketch.{name_in, version_or_empty}
use Rattle.worker_table.specs.Table.{Row, WorkerTable}
use Rattle.worker_table.specs.Parts.{number_in}
use Rattle.worker_table.specs.Rows.{rows_in}
use Rattle.worker_table.specs.Headed.{worker_in}

abbrev of_parts : Option (List ℕ) → Option (List ℕ) → Option ℕ → Option (List Row) → Option WorkerTable
of_parts name vsn first rows =
    option_and_then (λ (n : List ℕ). option_and_then (λ (v : List ℕ). option_and_then (λ (s : ℕ).
    option_map (λ (r : List Row). record { name = n; vsn = v; first = s; rows = r }) rows) first) vsn) name

abbrev of_members : Value × Value × Value × Value → Option WorkerTable
of_members m = of_parts (name_in m.0) (version_or_empty m.1) (number_in m.2) (option_and_then rows_in (list_in m.3))

pub worker_read : (vs : Values) (m : Value × Value × Value × Value) (name vsn : List ℕ) (first : ℕ) (ws : Values) (rows : List Row)
    → Some m ≡ four vs → Some name ≡ name_in m.0 → Some vsn ≡ version_or_empty m.1 → Some first ≡ number_in m.2 → Some ws ≡ list_in m.3 → Some rows ≡ rows_in ws
    → Some (record { name = name; vsn = vsn; first = first; rows = rows }) ≡ worker_in vs
worker_read vs m name vsn first ws rows whole named version number listed each =
    let read : Some rows ≡ option_and_then rows_in (list_in m.3) = each ∙ ap (option_and_then rows_in) listed in
    (λ j. of_parts (named j) (version j) (number j) (read j)) ∙ ap (option_and_then of_members) whole

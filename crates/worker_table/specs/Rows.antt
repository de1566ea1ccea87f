-- The rows of a worker's table, from its term; docs/RULES.md gives the format.
use Rattle.std.specs.Prelude.{ℕ, List, [], ◌∷◌, Option, Some, None, codes, if◌then◌else◌}
use Rattle.std.specs.Option.{option_map, option_and_then}
use Rattle.std.specs.Str.{bytes_eq}
use Rattle.erl_term.specs.Value.{Value, Values}
use Rattle.erl_term.specs.Value.Value.{tuple}
use Rattle.erl_term.specs.Value.Values.{no_values, value}
use Rattle.rel_files.specs.Parts.{list_in, two, pair_in, three, four, is_word}
use Rattle.rel_files.specs.Sketch.{version_or_empty}
use Rattle.worker_table.specs.Table.{OldVersion, Row}
use Rattle.worker_table.specs.Table.OldVersion.{up, down}
use Rattle.worker_table.specs.Table.Row.{on, add, stop, change}
use Rattle.worker_table.specs.Parts.{tagged_in, number_in}

-- N, R of a row with this state and this input
abbrev pub on_row : ℕ → ℕ → Value → Value → Option Row
on_row s i next reply = option_and_then (λ n. option_map (λ r. on s i n r) (number_in reply)) (number_in next)

-- S, I, N, R
abbrev pub on_in : Values → Option Row
on_in vs = option_and_then (λ m. option_and_then (λ s. option_and_then (λ i. on_row s i m.2 m.3) (number_in m.1)) (number_in m.0)) (four vs)

-- I, K
abbrev pub add_in : Values → Option Row
add_in vs = option_and_then (λ m. option_and_then (λ i. option_map (λ k. add i k) (number_in m.1)) (number_in m.0)) (two vs)

-- S, I, R
abbrev pub stop_in : Values → Option Row
stop_in vs =
    option_and_then (λ m. option_and_then (λ s. option_and_then (λ i. option_map (λ r. stop s i r)
    (number_in m.2)) (number_in m.1)) (number_in m.0)) (three vs)

-- down, Vsn
abbrev pub down_in : Values → Option OldVersion
down_in vs = option_and_then (λ m. if is_word (codes "down") m.0 then option_map down (version_or_empty m.1) else None) (two vs)

-- Vsn, or {down, Vsn}
abbrev pub old_in : Value → Option OldVersion
old_in (tuple vs) = down_in vs
old_in v = option_map up (version_or_empty v)

-- {S, N}
abbrev pub move_in : Value → Option (ℕ × ℕ)
move_in v = option_and_then (λ m. option_and_then (λ s. option_map (λ n. (s, n)) (number_in m.1)) (number_in m.0)) (pair_in v)

-- those of all of them, where each is one
abbrev pub moves_in : Values → Option (List (ℕ × ℕ))
moves_in no_values = Some []
moves_in (value v vs) = option_and_then (λ p. option_map (λ ps. p ∷ ps) (moves_in vs)) (move_in v)

-- Old, Extra, [{S, N}]
abbrev pub change_in : Values → Option Row
change_in vs =
    option_and_then (λ m. option_and_then (λ o. option_map (λ ps. change o m.1 ps)
    (option_and_then moves_in (list_in m.2))) (old_in m.0)) (three vs)

-- {on, S, I, N, R}, {add, I, K}, {stop, S, I, R} or {change, Old, Extra, [{S, N}]}
abbrev pub row_in : Value → Option Row
row_in v = option_and_then (λ t.
    if bytes_eq t.0 (codes "on") then on_in t.1
    else if bytes_eq t.0 (codes "add") then add_in t.1
    else if bytes_eq t.0 (codes "stop") then stop_in t.1
    else if bytes_eq t.0 (codes "change") then change_in t.1
    else None) (tagged_in v)

-- those of all of them, where each is one
abbrev pub rows_in : Values → Option (List Row)
rows_in no_values = Some []
rows_in (value v vs) = option_and_then (λ r. option_map (λ rs. r ∷ rs) (rows_in vs)) (row_in v)

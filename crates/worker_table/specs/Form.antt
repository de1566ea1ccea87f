-- The terms of workers' tables; docs/RULES.md gives the format.
use Rattle.std.specs.Prelude.{ℕ, pos, ◌<◌, ◌^◌, [], ◌∷◌, map, codes}
use Rattle.std.specs.List.{AllByRecursion}
use Rattle.erl_term.specs.Value.{Value}
use Rattle.erl_term.specs.Value.Value.{int, atom}
use Rattle.rel_files.specs.Name.{IsName, IsVersion}
use Rattle.rel_files.specs.Terms.{tuple_of, list_of, pair_term, text_term}
use Rattle.worker_table.specs.Table.{OldVersion, Row, WorkerTable}
use Rattle.worker_table.specs.Table.OldVersion.{up, down}
use Rattle.worker_table.specs.Table.Row.{on, add, stop, change}

-- a state, an input, a reply or a summand
abbrev pub number_term : ℕ → Value
number_term n = int (pos n)

-- Vsn, or {down, Vsn}
abbrev pub old_term : OldVersion → Value
old_term (up s) = text_term s
old_term (down s) = pair_term (atom (codes "down")) (text_term s)

-- {S, N}
abbrev pub move_term : ℕ × ℕ → Value
move_term p = pair_term (number_term p.0) (number_term p.1)

-- {on, S, I, N, R}, {add, I, K}, {stop, S, I, R} or {change, Old, Extra, [{S, N}]}
abbrev pub row_term : Row → Value
row_term (on s i n r) = tuple_of (atom (codes "on") ∷ number_term s ∷ number_term i ∷ number_term n ∷ number_term r ∷ [])
row_term (add i k) = tuple_of (atom (codes "add") ∷ number_term i ∷ number_term k ∷ [])
row_term (stop s i r) = tuple_of (atom (codes "stop") ∷ number_term s ∷ number_term i ∷ number_term r ∷ [])
row_term (change o e ps) = tuple_of (atom (codes "change") ∷ old_term o ∷ e ∷ list_of (map move_term ps) ∷ [])

-- {worker, Mod, Vsn, Init, Rows}
abbrev pub worker_term : WorkerTable → Value
worker_term w = tuple_of (atom (codes "worker") ∷ atom w.name ∷ text_term w.vsn ∷ number_term w.first ∷ list_of (map row_term w.rows) ∷ [])

-- a number from 0 to 4294967295
abbrev pub IsNumber : ℕ → Type 0
IsNumber n = n < 2 ^ 32

abbrev pub IsOld : OldVersion → Type 0
IsOld (up s) = IsVersion s
IsOld (down s) = IsVersion s

abbrev pub IsMove : ℕ × ℕ → Type 0
IsMove p = IsNumber p.0 × IsNumber p.1

-- Each number of the row is one, and its version is one. The extra term may be any.
abbrev pub IsRow : Row → Type 0
IsRow (on s i n r) = IsNumber s × IsNumber i × IsNumber n × IsNumber r
IsRow (add i k) = IsNumber i × IsNumber k
IsRow (stop s i r) = IsNumber s × IsNumber i × IsNumber r
IsRow (change o e ps) = IsOld o × AllByRecursion IsMove ps

-- The name is one, the version is one, and each number is one.
pub record IsWorker (w : WorkerTable) : Type 0 where
  pub name : IsName w.name
  pub vsn : IsVersion w.vsn
  pub first : IsNumber w.first
  pub rows : AllByRecursion IsRow w.rows

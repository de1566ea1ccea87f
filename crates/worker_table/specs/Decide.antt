-- What a worker's table decides: the first row that fits; docs/RULES.md has it in words.
use Rattle.std.specs.Prelude.{ℕ, ◌+◌, ◌%◌, ◌^◌, ◌==◌, Bool, false, ◌&&◌, List, Option, unwrap_or}
use Rattle.std.specs.List.{find}
use Rattle.std.specs.Option.{option_map}
use Rattle.std.specs.Str.{bytes_eq}
use Rattle.erl_term.specs.Value.{Value}
use Rattle.worker_table.specs.declared.step.Step.{Step}
use Rattle.worker_table.specs.declared.step.Step.TheVariants.{Next, Ends, Crashes}
use Rattle.worker_table.specs.Table.{OldVersion, Row}
use Rattle.worker_table.specs.Table.OldVersion.{up, down}
use Rattle.worker_table.specs.Table.Row.{on, add, stop, change}
use Rattle.worker_table.specs.Same.{is_same}

-- whether a call in this state, with this input, fits the row
abbrev pub fits_call : ℕ → ℕ → Row → Bool
fits_call state input (on s i n r) = (s == state) && (i == input)
fits_call state input (add i k) = i == input
fits_call state input (stop s i r) = (s == state) && (i == input)
fits_call state input (change o e ps) = false

-- what the row makes of a call that fits it; a sum wraps at 2 ^ 32
abbrev pub call_of : ℕ → Row → Step
call_of state (on s i n r) = Next n r
call_of state (add i k) = Next ((state + k) % 2 ^ 32) ((state + k) % 2 ^ 32)
call_of state (stop s i r) = Ends r
call_of state (change o e ps) = Crashes

-- what the first fitting row makes of a call; where none fits, the process crashes
abbrev pub step_of : List Row → ℕ → ℕ → Step
step_of rows state input = unwrap_or (option_map (call_of state) (find (fits_call state input) rows)) Crashes

abbrev pub is_same_version : OldVersion → OldVersion → Bool
is_same_version (up s) (up t) = bytes_eq s t
is_same_version (down s) (down t) = bytes_eq s t
is_same_version o p = false

-- whether a change of code from this version, with this extra term, fits the row
abbrev pub fits_change : OldVersion → Value → Row → Bool
fits_change old extra (change o e ps) = is_same_version o old && is_same e extra
fits_change old extra row = false

-- the new state of a state: that of its first pair; a state that no pair names stays
abbrev pub moved : List (ℕ × ℕ) → ℕ → ℕ
moved pairs state = unwrap_or (option_map (λ (p : ℕ × ℕ). p.1) (find (λ (p : ℕ × ℕ). p.0 == state) pairs)) state

abbrev pub moved_by : ℕ → Row → ℕ
moved_by state (change o e ps) = moved ps state
moved_by state row = state

-- the new state by the first fitting row; where none fits, the change fails
abbrev pub change_of : List Row → OldVersion → Value → ℕ → Option ℕ
change_of rows old extra state = option_map (moved_by state) (find (fits_change old extra) rows)

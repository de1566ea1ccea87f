-- What the calls that change a value answer and leave.
use Rattle.std.specs.Prelude.{◌≡◌, ◌⊎◌, ℕ, Bool, true, ◌+◌, is_some, Option, Some, None, Result, Ok, Err}
use Rattle.erl_term.specs.Value as term
use Rattle.mod_table.specs.Table.{OldVersion}
use Rattle.proc_history.specs.declared.value.Value.{Value}
use Rattle.proc_history.specs.declared.value.Now.{Now}
use Rattle.proc_history.specs.declared.value.Standing.{Standing}
use Rattle.proc_history.specs.declared.value.Standing.TheVariants.{Up}
use Rattle.proc_history.specs.declared.beginning.Beginning.{Beginning}
use Rattle.proc_history.specs.Events.Event.{begin}
use Rattle.proc_history.specs.Values.{after, changes}

-- whether a change of code finds its row, where the process is up
abbrev pub finds_row_if : OldVersion → term.Value → Now → Standing → Bool
finds_row_if old extra n Up = is_some (changes n old extra)
finds_row_if old extra n s = true

abbrev pub finds_row_at : OldVersion → term.Value → Option Now → Bool
finds_row_at old extra None = true
finds_row_at old extra (Some n) = finds_row_if old extra n n.standing

abbrev pub finds_row : OldVersion → term.Value → Value → Bool
finds_row old extra v = finds_row_at old extra v.now

-- A process begins with the next round. It doesn't where one stands, or where the last round was used.
abbrev pub Begins : Value → Beginning → Result ℕ Beginning → Value → Type 0
Begins v b (Ok round) w = (v.now ≡ None) × (round ≡ v.round + 1) × (w ≡ after v (begin round b))
Begins v b (Err given) w = ((is_some v.now ≡ true) ⊎ (v.round ≡ 4294967295)) × (w ≡ v) × (given ≡ b)

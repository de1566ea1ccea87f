-- Who has a process, by its word.
use Rattle.std.specs.Prelude.{◌≡◌, ◌≢◌, ℕ, zero, suc, true, false, slice_index}
use Rattle.proc_table.specs.declared.view.View.{View}
use Rattle.proc_table.specs.Views.{is_out}
use Rattle.proc_table.specs.Agrees.{States, Sits}
use Rattle.proc_table.specs.Moves.{Reached}

abbrev pub HandlerHas : States → ℕ → Type 0
HandlerHas s p = (i : ℕ) × (v : View) × Sits s i v × (v.number ≡ 0) × (is_out v p ≡ true)

abbrev pub ClientHas : States → ℕ → Type 0
ClientHas s p = (i : ℕ) × (v : View) × Sits s i v × (v.number ≢ 0) × (is_out v p ≡ true)

abbrev pub NobodyHas : States → ℕ → Type 0
NobodyHas s p = (i : ℕ) (v : View) → Sits s i v → is_out v p ≡ false

-- who has the process at this word of it
abbrev pub HasAtWord : ℕ → ℕ → States → Type 0
HasAtWord p zero s = NobodyHas s p
HasAtWord p (suc zero) s = ClientHas s p
HasAtWord p (suc (suc n)) s = HandlerHas s p

-- In each state to which a run leads, the word of a process shows who has it.
abbrev pub WordsShow : Type 0
WordsShow = (s : States) → Reached s → (p : ℕ) → HasAtWord p (slice_index s.words p) s

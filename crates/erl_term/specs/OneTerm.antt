-- A text that is to have one term, as the body of a record has.
use Rattle.std.specs.Prelude.{◌≡◌, ℕ, ◌⊎◌, List, [], ◌∷◌, length}
use Rattle.erl_number.specs.declared.fault.TermFault.{TermFault}
use Rattle.erl_number.specs.declared.fault.TermFault.TheVariants.{MissingDot, NoMemory}
use Rattle.erl_term.specs.Value.{Value}
use Rattle.erl_term.specs.Grammar.{Reading, Reads}
use Rattle.erl_term.specs.Faults.{IsFault}

-- The text has one term, and it is this.
abbrev pub HasTerm : ℕ → List ℕ → Value → Type 0
HasTerm limit bytes v = (r : Reading) × Reads limit bytes (r ∷ []) × (r.term ≡ v)

-- reported of terms that aren't one: a dot is missing at the end of a text of so many bytes, or where the second begins
abbrev pub ReportsCount : ℕ → List Reading → TermFault → Type 0
ReportsCount size [] f = f ≡ MissingDot size
ReportsCount size (r ∷ []) f = ⊥
ReportsCount size (r ∷ s ∷ rs) f = f ≡ MissingDot s.from

-- The fault of a text that is to have one term: its own, or that its terms aren't one.
abbrev pub IsRecordFault : ℕ → List ℕ → TermFault → Type 0
IsRecordFault limit bytes f = IsFault limit bytes f ⊎ ((rs : List Reading) × Reads limit bytes rs × ReportsCount (length bytes) rs f)

-- that fault, or out of memory
abbrev pub ReportsRecordFault : ℕ → List ℕ → TermFault → Type 0
ReportsRecordFault limit bytes NoMemory = Unit {0}
ReportsRecordFault limit bytes f = IsRecordFault limit bytes f

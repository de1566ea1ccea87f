-- A file that is to have one term: what its term says, or which fault the file has.
use Rattle.std.specs.Prelude.{◌≡◌, ◌⊎◌, ℕ, List, [], ◌∷◌}
use Rattle.erl_term.specs.TermFault.{TermFault}
use Rattle.erl_term.specs.Value.{Value}
use Rattle.erl_term.specs.Grammar.{Reads, Reading}
use Rattle.erl_term.specs.Faults.{IsFault}
use Rattle.erl_term.specs.OneTerm
use Rattle.rel_files.specs.declared.fault.FileFault.{FileFault}
use Rattle.rel_files.specs.Fault.{Fault, fault_of}
use Rattle.rel_files.specs.Fault.Fault.{bad_term, bad_shape}

-- The file has one term, and it is this.
abbrev pub HasFileTerm : List ℕ → Value → Type 0
HasFileTerm bytes v = OneTerm.HasTerm 64 bytes v

-- The file has one term, this one, and it begins at this place.
abbrev pub HasTermAt : List ℕ → ℕ → Value → Type 0
HasTermAt bytes at v = (r : Reading) × Reads 64 bytes (r ∷ []) × (r.term ≡ v) × (r.from ≡ at)

-- reported of terms that aren't one: the place of the first, 0 if there is none
abbrev pub AreNotOne : List Reading → Fault → Type 0
AreNotOne [] f = f ≡ bad_shape 0
AreNotOne (r ∷ []) f = ⊥
AreNotOne (r ∷ s ∷ rs) f = f ≡ bad_shape r.from

-- The fault of a file that hasn't one term: it is no row of terms, or these aren't one.
abbrev pub HasNoTerm : List ℕ → Fault → Type 0
HasNoTerm bytes f = ((e : TermFault) × (f ≡ bad_term e) × IsFault 64 bytes e) ⊎ ((rs : List Reading) × Reads 64 bytes rs × AreNotOne rs f)

abbrev pub IsNoTermFault : List ℕ → FileFault → Type 0
IsNoTermFault bytes f = HasNoTerm bytes (fault_of f)

-- The file says what its term says.
abbrev pub TermOfFileSays : {X : Type 0} → (Value → X → Type 0) → List ℕ → X → Type 0
TermOfFileSays {X} says bytes x = (v : Value) × HasFileTerm bytes v × says v x

-- The fault of the file: it hasn't one term, or its term, by where it begins, has the fault.
abbrev pub HasFileFault : (Value → ℕ → Fault → Type 0) → List ℕ → Fault → Type 0
HasFileFault fails bytes f = HasNoTerm bytes f ⊎ ((at : ℕ) × (v : Value) × HasTermAt bytes at v × fails v at f)

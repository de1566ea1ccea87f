-- Laws of texts, whatever reads them.
use Rattle.std.specs.Prelude.{◌≡◌, ℕ, ◌+◌, ◌-◌, ◌⊎◌, List, [], ◌∷◌, ◌++◌, slice_range}
use Rattle.std.specs.List.{AllByRecursion}
use Rattle.erl_number.specs.declared.fault.TermFault.{TermFault}
use Rattle.erl_term.specs.Grammar.{Reading, Reads}
use Rattle.erl_term.specs.Faults.{IsFault}
use Rattle.erl_term.specs.Within.{IsWithin}

-- No text has two readings.
abbrev pub HasOneReading : Type 0
HasOneReading = (limit : ℕ) (bytes : List ℕ) (a b : List Reading) → Reads limit bytes a → Reads limit bytes b → a ≡ b

-- No text both reads and has a fault.
abbrev pub NeverBoth : Type 0
NeverBoth = (limit : ℕ) (bytes : List ℕ) (rs : List Reading) (f : TermFault) → Reads limit bytes rs → IsFault limit bytes f → ⊥

-- Each text reads or has a fault.
abbrev pub ReadsOrFails : Type 0
ReadsOrFails = (limit : ℕ) (bytes : List ℕ) → ((rs : List Reading) × Reads limit bytes rs) ⊎ ((f : TermFault) × IsFault limit bytes f)

-- No text has two faults.
abbrev pub HasOneFault : Type 0
HasOneFault = (limit : ℕ) (bytes : List ℕ) (f g : TermFault) → IsFault limit bytes f → IsFault limit bytes g → f ≡ g

-- The bytes of a term that is read, from its first to its last, with a dot after them read as that term alone.
abbrev pub EachTermStandsAlone : Type 0
EachTermStandsAlone =
    (limit : ℕ) (bytes : List ℕ) (before after : List Reading) (r : Reading) → Reads limit bytes (before ++ (r ∷ after))
    → Reads limit (slice_range bytes r.from r.to ++ 46 ∷ []) (record { term = r.term; from = 0; to = r.to - r.from } ∷ [])

-- A term that is read has one bracket more than the limit at most, since a text of no characters is read without brackets
-- and printed as a list of no members.
abbrev pub KeepsLimits : Type 0
KeepsLimits = (limit : ℕ) (bytes : List ℕ) (rs : List Reading) → Reads limit bytes rs → AllByRecursion (λ r. IsWithin (limit + 1) r.term) rs

-- What a relup file says, or which fault it has.
use Rattle.std.specs.Prelude.{◌≡◌, ◌⊎◌, ℕ, ◌+◌, List, [], ◌∷◌, ◌++◌, length}
use Rattle.erl_term.specs.Value.{Value}
use Rattle.erl_term.specs.Grammar.{Reads, Reading}
use Rattle.erl_term.specs.Faults.{IsFault}
use Rattle.rel_files.specs.OneTermFile.{TermOfFileSays}
use Rattle.relup_file.specs.declared.fault.RelupFault.{RelupFault}
use Rattle.relup_file.specs.declared.fault.RelupFault.TheVariants.{BadTerm, BadShape, NoMemory}
use Rattle.relup_file.specs.Relup.{EntryForm, RelupForm}
use Rattle.relup_file.specs.Form.{IsEntryTerm, AreEntryTerms, IsOuter, IsRelupTerm}

-- The file says this relup.
abbrev pub SaysRelup : List ℕ → RelupForm → Type 0
SaysRelup bytes r = TermOfFileSays IsRelupTerm bytes r

-- The term is not `{Vsn, Ups, Downs}`, a version and two lists.
abbrev pub HasNoOuter : Value → Type 0
HasNoOuter v = (vsn : List ℕ) (ups downs : List Value) → IsOuter v vsn ups downs → ⊥

-- The first entry that is none, upgrades first, has this number, counted from 1.
pub record HasBadEntry (v : Value) (n : ℕ) : Type 0 where
  pub vsn : List ℕ
  pub ups : List Value
  pub downs : List Value
  pub outer : IsOuter v vsn ups downs
  pub front : List Value
  pub bad : Value
  pub rest : List Value
  pub is : ups ++ downs ≡ front ++ (bad ∷ rest)
  pub entries : List EntryForm
  pub good : AreEntryTerms front entries
  pub none : (e : EntryForm) → IsEntryTerm bad e → ⊥
  pub number : n ≡ length front + 1

-- The fault of a term: 0 for its outer shape, else the first bad entry.
abbrev pub HasTermFault : Value → ℕ → Type 0
HasTermFault v n = ((n ≡ 0) × HasNoOuter v) ⊎ HasBadEntry v n

abbrev pub IsTermFault : Value → RelupFault → Type 0
IsTermFault v (BadShape n) = HasTermFault v n
IsTermFault v f = ⊥

-- the fault of the terms of a file: there is to be one
abbrev pub HaveShapeFault : List Reading → ℕ → Type 0
HaveShapeFault (r ∷ []) n = HasTermFault r.term n
HaveShapeFault rs n = n ≡ 0

-- The fault of a file. Out of memory is none.
abbrev pub IsRelupFault : List ℕ → RelupFault → Type 0
IsRelupFault bytes (BadTerm e) = IsFault 64 bytes e
IsRelupFault bytes (BadShape n) = (rs : List Reading) × Reads 64 bytes rs × HaveShapeFault rs n
IsRelupFault bytes NoMemory = ⊥

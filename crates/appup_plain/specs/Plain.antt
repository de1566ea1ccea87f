-- The entries that an appup has for the versions that are asked, each under its version alone.
use Rattle.std.specs.Prelude.{◌≡◌, ◌⊎◌, ℕ, List, [], ◌∷◌, Result, Ok, Err}
use Rattle.appup_file.specs.Instruction.{AppupInstruction, AppupEntryForm}
use Rattle.appup_file.specs.Instruction.VersionForm.{text}
use Rattle.appup_match.specs.declared.fault.PatternFault.{PatternFault}
use Rattle.appup_match.specs.Match.{MatchFault, entry_matching, ComesToFault}
use Rattle.appup_match.specs.Match.MatchFault.{no_entry, bad_pattern}
use Rattle.appup_plain.specs.declared.fault.PlainError.{PlainError}
use Rattle.appup_plain.specs.declared.fault.PlainError.TheVariants.{BadPattern, NoMemory}

abbrev pub plain_entry : List ℕ → List AppupInstruction → AppupEntryForm
plain_entry vsn row = record { vsn = text vsn; instrs = row }

-- Each version that is asked has its entry, or none is for it.
pub data IsPlain (es : List AppupEntryForm) : List (List ℕ) → List AppupEntryForm → Type 0 where
  nothing : IsPlain es [] []
  entry : {asked : List (List ℕ)} {plain : List AppupEntryForm} (vsn : List ℕ) (row : List AppupInstruction) →
      entry_matching vsn es ≡ Ok row → IsPlain es asked plain → IsPlain es (vsn ∷ asked) (plain_entry vsn row ∷ plain)
  none : {asked : List (List ℕ)} {plain : List AppupEntryForm} (vsn : List ℕ) →
      entry_matching vsn es ≡ Err no_entry → IsPlain es asked plain → IsPlain es (vsn ∷ asked) plain

-- The version is one of those that are asked.
abbrev pub IsAsked : List ℕ → List (List ℕ) → Type 0
IsAsked v [] = ⊥
IsAsked v (u ∷ asked) = (u ≡ v) ⊎ IsAsked v asked

-- The search ends with instructions, or with no entry.
abbrev pub IsAnswer : Result (List AppupInstruction) MatchFault → Type 0
IsAnswer (Ok row) = Unit {0}
IsAnswer (Err no_entry) = Unit {0}
IsAnswer (Err (bad_pattern place)) = ⊥

-- The first version that is asked and has no answer comes to the entry at this place, whose pattern has this fault.
abbrev pub AsksFault : PatternFault → List AppupEntryForm → List (List ℕ) → ℕ → Type 0
AsksFault f es [] place = ⊥
AsksFault f es (v ∷ asked) place = ComesToFault f v es place ⊎ (IsAnswer (entry_matching v es) × AsksFault f es asked place)

-- what an error says of the entries; out of memory says nothing of them
abbrev pub Refuses : List AppupEntryForm → List (List ℕ) → PlainError → Type 0
Refuses es asked (BadPattern place f) = AsksFault f es asked place
Refuses es asked NoMemory = Unit {0}

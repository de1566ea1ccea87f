-- The first instruction that systools refuses.
use Rattle.std.specs.Prelude.{◌≡◌, ◌⊎◌, List, [], ◌∷◌, Option, None, Some, string_bytes}
use Rattle.std.specs.List.{AllByRecursion}
use Rattle.relup_lint.specs.Script.{ScriptForm}
use Rattle.relup_lint.specs.Findings.{FindingForm, IsFirst, findings}
use Rattle.release_relup.specs.declared.judgement.FoundInstr.{FoundInstr}

-- Nothing is refused of a script.
abbrev pub IsClean : ScriptForm → Type 0
IsClean s = findings s ≡ []

-- The instruction that is reported is the one that systools refuses first.
pub record IsFoundIn (s : ScriptForm) (x : FoundInstr) : Type 0 where
  pub finding : FindingForm
  pub first : IsFirst (findings s) finding
  pub app : string_bytes x.app ≡ finding.app
  pub number : x.number ≡ finding.number

abbrev pub Judges : ScriptForm → Option FoundInstr → Type 0
Judges s None = IsClean s
Judges s (Some x) = IsFoundIn s x

-- The first script of which anything is refused has this instruction.
abbrev pub HasFound : List ScriptForm → FoundInstr → Type 0
HasFound [] x = ⊥
HasFound (s ∷ ss) x = IsFoundIn s x ⊎ (IsClean s × HasFound ss x)

abbrev pub JudgesAll : List ScriptForm → Option FoundInstr → Type 0
JudgesAll ss None = AllByRecursion IsClean ss
JudgesAll ss (Some x) = HasFound ss x

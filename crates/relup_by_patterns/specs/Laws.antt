-- Laws of plain releases.
use Rattle.std.specs.Prelude.{◌≡◌, ℕ, List, ◌∷◌, ◌++◌, Err}
use Rattle.appup_plain.specs.Plain.{IsAsked}
use Rattle.relup_row.specs.Release.{RelupAppForm, RelupReleaseForm}
use Rattle.relup_translate.specs.Fault.FaultForm.{regex_version}
use Rattle.relup_translate.specs.Translation.{translation}
use Rattle.relup_translate.specs.WellFormed.{IsWellFormedRelease, HasWellFormedAppups}
use Rattle.relup_by_patterns.specs.Plain.{IsPlainRelease, asked}

-- No translation of a plain release ends at a regular expression.
abbrev pub EndsAtNoPattern : Type 0
EndsAtNoPattern = (ups downs : List RelupReleaseForm) (new plain : RelupReleaseForm) → IsPlainRelease ups downs new plain
    → (app : List ℕ) → translation plain ups downs ≡ Err (regex_version app) → ⊥

-- Each version that a release has of an application of this name, other than this one's, is asked.
abbrev pub AsksEachVersion : Type 0
AsksEachVersion = (a b : RelupAppForm) (before after : List RelupReleaseForm) (r : RelupReleaseForm) (front back : List RelupAppForm)
    → r.apps ≡ front ++ (b ∷ back) → b.name ≡ a.name → (b.vsn ≡ a.vsn → ⊥) → IsAsked b.vsn (asked a (before ++ (r ∷ after)))

-- The names in a plain release are names, and its versions are versions, also in its appups, where it is so of the release.
abbrev pub StaysWellFormed : Type 0
StaysWellFormed = (ups downs : List RelupReleaseForm) (new plain : RelupReleaseForm) → IsPlainRelease ups downs new plain
    → IsWellFormedRelease new → HasWellFormedAppups new → IsWellFormedRelease plain × HasWellFormedAppups plain

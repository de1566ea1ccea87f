-- The relup of a release, from files, as a text.
use Rattle.std.specs.Prelude.{◌≡◌, ◌≢◌, ℕ, Bool, List, ◌++◌, None, Some, Ok, Err, codes}
use Rattle.erl_term.specs.Printing.{text_of}
use Rattle.erl_term.specs.Within.{IsWithin}
use Rattle.rel_unpack.specs.Refusal.{refusal_of}
use Rattle.rel_unpack.specs.Source.{Source}
use Rattle.rel_unpack.specs.declared.error.UnpackError.TheVariants as unpack
use Rattle.relup_file.specs.File.{SaysRelup}
use Rattle.relup_file.specs.Form.{IsRelup, relup_term}
use Rattle.relup_file.specs.Relup.{RelupForm}
use Rattle.relup_row.specs.Release.{RelupReleaseForm}
use Rattle.relup_command.specs.Releases.{Releases, ReleasesAt}
use Rattle.relup_by_patterns.specs.Plain.{IsPlainRelease, AppsHaveFault, bad_pattern_of}
use Rattle.runtime_change.specs.Relup.{relup_over_runtimes, RefusedAs}
use Rattle.release_relup.specs.Scripts.{scripts}
use Rattle.release_relup.specs.Found.{JudgesAll}
use Rattle.release_relup.specs.Refusal.{file_at_fault}
use Rattle.release_relup.specs.Warnings.{warnings}
use Rattle.release_relup.specs.declared.error.MakeError.{MakeError}
use Rattle.release_relup.specs.declared.error.MakeError.TheVariants.{Files, Pattern, Translation, Refused, TooDeep, NoMemory}

-- The relup is the translation over runtime systems, and nothing is refused of its scripts.
pub record IsRelupOf (restart : Bool) (plain : RelupReleaseForm) (ups downs : List RelupReleaseForm) (relup : RelupForm) : Type 0 where
  pub clean : JudgesAll (scripts plain ups downs) None
  pub is : relup_over_runtimes restart plain ups downs ≡ Ok relup

-- The text is that of the relup, with a dot, and is within a reader's limits, so that it is read back where the relup has the form
-- of one.
pub record IsPrinted (relup : RelupForm) (text : List ℕ) : Type 0 where
  pub is : text ≡ text_of (relup_term relup) ++ codes "."
  pub reads_back : IsRelup relup → SaysRelup text relup

-- The relup is not within a reader's limits.
abbrev pub IsTooDeep : RelupForm → Type 0
IsTooDeep relup = IsWithin 64 (relup_term relup) → ⊥

-- what an error says of a relup that is printed
abbrev pub RefusesPrinting : RelupForm → MakeError → Type 0
RefusesPrinting relup TooDeep = IsTooDeep relup
RefusesPrinting relup NoMemory = Unit {0}
RefusesPrinting relup e = ⊥

-- What an error says of a release with plain appups: the first fault of the translation, or else the first instruction that is
-- refused, or else that the relup is too deep. Out of memory says nothing.
abbrev pub RefusesPlain : Bool → RelupReleaseForm → List RelupReleaseForm → List RelupReleaseForm → MakeError → Type 0
RefusesPlain restart plain ups downs (Translation e) = RefusedAs (relup_over_runtimes restart plain ups downs) e
RefusesPlain restart plain ups downs (Refused x) = JudgesAll (scripts plain ups downs) (Some x)
RefusesPlain restart plain ups downs TooDeep = (relup : RelupForm) × IsRelupOf restart plain ups downs relup × IsTooDeep relup
RefusesPlain restart plain ups downs NoMemory = Unit {0}
RefusesPlain restart plain ups downs e = ⊥

-- The text is that of the relup of these releases, and is read back as this relup.
pub record IsTextOf (restart : Bool) (all : Releases) (text : List ℕ) : Type 0 where
  pub plain : RelupReleaseForm
  pub is_plain : IsPlainRelease all.ups all.downs all.new plain
  pub relup : RelupForm
  pub made : IsRelupOf restart plain all.ups all.downs relup
  pub is : text ≡ text_of (relup_term relup) ++ codes "."
  pub says : SaysRelup text relup

-- What an error says of releases: the first bad pattern that a search comes to, or else what it says of the release with plain appups.
abbrev pub RefusesReleases : Bool → Releases → MakeError → Type 0
RefusesReleases restart all (Pattern b) = AppsHaveFault all.ups all.downs all.new.apps (bad_pattern_of b)
RefusesReleases restart all NoMemory = Unit {0}
RefusesReleases restart all e =
    (plain : RelupReleaseForm) × IsPlainRelease all.ups all.downs all.new plain × RefusesPlain restart plain all.ups all.downs e

-- The text is that of the relup of the releases which the files say, and these lines are what systools warns of.
abbrev pub IsMadeText : Source → List ℕ → List (List ℕ) → List (List ℕ) → Bool → List ℕ → List (List ℕ) → Type 0
IsMadeText source new ups downs restart text lines =
    (all : Releases) × ReleasesAt source new ups downs (Ok all) × IsTextOf restart all text × (lines ≡ warnings all)

-- What an error says of files: the first one that isn't taken, or else what it says of their releases.
abbrev pub IsRefusal : Source → List ℕ → List (List ℕ) → List (List ℕ) → Bool → MakeError → Type 0
IsRefusal source new ups downs restart (Files e) = e ≢ unpack.NoMemory → ReleasesAt source new ups downs (Err (refusal_of e))
IsRefusal source new ups downs restart NoMemory = Unit {0}
IsRefusal source new ups downs restart e = (all : Releases) × ReleasesAt source new ups downs (Ok all) × RefusesReleases restart all e

-- The file that a refusal names is that of the error, by the new release of the paths where that was read. Out of memory names none.
abbrev pub NamesFile : Source → List ℕ → List (List ℕ) → List (List ℕ) → MakeError → List ℕ → Type 0
NamesFile source new ups downs (Files e) file = file ≡ file_at_fault new None (Files e)
NamesFile source new ups downs NoMemory file = Unit {0}
NamesFile source new ups downs e file = (all : Releases) × ReleasesAt source new ups downs (Ok all) × (file ≡ file_at_fault new (Some all.new) e)

-- An error stays as it is, or says out of memory.
abbrev pub IsKept : MakeError → MakeError → Type 0
IsKept why NoMemory = Unit {0}
IsKept why e = e ≡ why

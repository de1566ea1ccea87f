-- Releases with plain appups, and the first pattern with a fault.
use Rattle.std.specs.Prelude.{◌≡◌, ◌⊎◌, ℕ, not, ◌&&◌, List, [], ◌∷◌, Option, None, Some, IsSomeAnd, string_bytes, if◌then◌else◌}
use Rattle.std.specs.List.{AllZip, filter_map, flat_map}
use Rattle.std.specs.Str.{bytes_eq}
use Rattle.relup_instruction.specs.declared.instruction.Direction.{Direction}
use Rattle.relup_instruction.specs.declared.instruction.Direction.TheVariants.{Up, Down}
use Rattle.appup_file.specs.Instruction.{AppupEntryForm, AppupForm}
use Rattle.appup_file.specs.Search.{entries_of}
use Rattle.appup_match.specs.declared.fault.PatternFault.{PatternFault}
use Rattle.appup_plain.specs.declared.fault.PlainError.{PlainError}
use Rattle.appup_plain.specs.declared.fault.PlainError.TheVariants as plain_error
use Rattle.appup_plain.specs.Plain.{IsPlain, AsksFault}
use Rattle.relup_row.specs.Release.{RelupAppForm, RelupReleaseForm}
use Rattle.relup_by_patterns.specs.declared.error.BadPattern.{BadPattern as BadPatternInMemory}
use Rattle.relup_by_patterns.specs.declared.error.PatternError.{PatternError}
use Rattle.relup_by_patterns.specs.declared.error.PatternError.TheVariants as pattern_error

-- a pattern with a fault: its application, the direction and the place of its entry
pub record BadPattern : Type 0 where
  pub app : List ℕ
  pub direction : Direction
  pub place : ℕ
  pub fault : PatternFault

abbrev pub bad_pattern_of : BadPatternInMemory → BadPattern
bad_pattern_of b = record { app = string_bytes b.app; direction = b.direction; place = b.place; fault = b.fault }

-- P holds of the pattern that the error reports; out of memory reports none.
abbrev pub IfBad : PatternError → (BadPattern → Type 0) → Type 0
IfBad (pattern_error.BadPattern b) P = P (bad_pattern_of b)
IfBad pattern_error.NoMemory P = Unit {0}

-- the version that an application is asked for: that of another of its name, in another version
abbrev pub other_vsn : RelupAppForm → RelupAppForm → Option (List ℕ)
other_vsn a b = if bytes_eq b.name a.name && not (bytes_eq b.vsn a.vsn) then Some b.vsn else None

-- the versions that a release has of it, and that releases have, in their order
abbrev pub versions_in : RelupAppForm → RelupReleaseForm → List (List ℕ)
versions_in a r = filter_map (other_vsn a) r.apps

abbrev pub asked : RelupAppForm → List RelupReleaseForm → List (List ℕ)
asked a = flat_map (versions_in a)

-- what is reported of an error in an application's entries
abbrev pub Reports : List ℕ → Direction → PlainError → BadPattern → Type 0
Reports app d (plain_error.BadPattern place f) b = (b.app ≡ app) × (b.direction ≡ d) × (b.place ≡ place) × (b.fault ≡ f)
Reports app d plain_error.NoMemory b = ⊥

-- The first version of those releases that has no answer comes to this pattern among the entries of a direction.
pub record EntriesHaveFault (d : Direction) (rs : List RelupReleaseForm) (a : RelupAppForm) (p : AppupForm) (b : BadPattern) : Type 0 where
  pub app : b.app ≡ a.name
  pub direction : b.direction ≡ d
  pub comes : AsksFault b.fault (entries_of d p) (asked a rs) b.place

-- The appup q has the plain entries of the appup p.
pub record IsPlainAppup (a : RelupAppForm) (ups downs : List RelupReleaseForm) (p q : AppupForm) : Type 0 where
  pub vsn : q.vsn ≡ p.vsn
  pub up_entries : IsPlain p.ups (asked a ups) q.ups
  pub down_entries : IsPlain p.downs (asked a downs) q.downs

-- Upgrades come before downgrades.
abbrev pub AppupHasFault : List RelupReleaseForm → List RelupReleaseForm → RelupAppForm → AppupForm → BadPattern → Type 0
AppupHasFault ups downs a p b =
    EntriesHaveFault Up ups a p b
    ⊎ ((es : List AppupEntryForm) × IsPlain p.ups (asked a ups) es × EntriesHaveFault Down downs a p b)

-- an application's plain appup, where it has an appup; no plain one where it has none
abbrev pub IsPlainAppupOf : RelupAppForm → List RelupReleaseForm → List RelupReleaseForm → Option AppupForm → Type 0
IsPlainAppupOf a ups downs None = a.appup ≡ None
IsPlainAppupOf a ups downs (Some q) = IsSomeAnd a.appup (λ p. IsPlainAppup a ups downs p q)

abbrev pub AppHasFault : List RelupReleaseForm → List RelupReleaseForm → RelupAppForm → BadPattern → Type 0
AppHasFault ups downs a b = IsSomeAnd a.appup (λ p. AppupHasFault ups downs a p b)

-- The application c is the application a with a plain appup.
pub record IsPlainApp (ups downs : List RelupReleaseForm) (a c : RelupAppForm) : Type 0 where
  pub name : c.name ≡ a.name
  pub vsn : c.vsn ≡ a.vsn
  pub start : c.start ≡ a.start
  pub modules : c.modules ≡ a.modules
  pub appup : IsPlainAppupOf a ups downs c.appup

-- The release s is the release r with plain appups.
pub record IsPlainRelease (ups downs : List RelupReleaseForm) (r s : RelupReleaseForm) : Type 0 where
  pub vsn : s.vsn ≡ r.vsn
  pub erts : s.erts ≡ r.erts
  pub apps : AllZip (IsPlainApp ups downs) r.apps s.apps

-- The first application that has no plain appup has this pattern.
abbrev pub AppsHaveFault : List RelupReleaseForm → List RelupReleaseForm → List RelupAppForm → BadPattern → Type 0
AppsHaveFault ups downs [] b = ⊥
AppsHaveFault ups downs (a ∷ as') b = AppHasFault ups downs a b ⊎ ((c : RelupAppForm) × IsPlainApp ups downs a c × AppsHaveFault ups downs as' b)

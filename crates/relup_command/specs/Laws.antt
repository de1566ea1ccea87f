-- Laws of the releases that files say, and of the relups that are made of them.
use Rattle.std.specs.Prelude.{ℕ, List, Ok}
use Rattle.std.specs.List.{AllByRecursion}
use Rattle.rel_unpack.specs.Source.{Source}
use Rattle.relup_file.specs.Form.{IsRelup}
use Rattle.relup_file.specs.Relup.{RelupForm}
use Rattle.relup_translate.specs.WellFormed.{IsWellFormedRelease, HasWellFormedAppups}
use Rattle.relup_command.specs.Releases.{Releases, ReleasesAt}
use Rattle.relup_command.specs.Relup.{IsMadeOf}

-- The names in these releases are names, and their versions are versions, also in the appups of the new one.
pub record AreWellFormed (all : Releases) : Type 0 where
  pub new : IsWellFormedRelease all.new
  pub appups : HasWellFormedAppups all.new
  pub ups : AllByRecursion IsWellFormedRelease all.ups
  pub downs : AllByRecursion IsWellFormedRelease all.downs

-- Whatever the files of a source say, releases that are read from them are so.
abbrev pub ReadReleasesAreWellFormed : Source → Type 0
ReadReleasesAreWellFormed source = (new : List ℕ) (ups downs : List (List ℕ)) (all : Releases) → ReleasesAt source new ups downs (Ok all) → AreWellFormed all

-- Whatever the files of a source say, the names in a relup that is made of them are names, its versions are versions, and no script
-- is empty.
abbrev pub MadeRelupsAreNamed : Source → Type 0
MadeRelupsAreNamed source = (new : List ℕ) (ups downs : List (List ℕ)) (relup : RelupForm) → IsMadeOf source new ups downs relup → IsRelup relup

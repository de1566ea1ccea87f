-- The relup of a release, from files.
use Rattle.std.specs.Prelude.{◌≡◌, ◌≢◌, ℕ, List, Ok, Err}
use Rattle.rel_unpack.specs.Refusal.{refusal_of}
use Rattle.rel_unpack.specs.Source.{Source}
use Rattle.rel_unpack.specs.declared.error.UnpackError.TheVariants.{NoMemory}
use Rattle.relup_file.specs.Relup.{RelupForm}
use Rattle.relup_translate.specs.Translation.{translation, Refuses}
use Rattle.relup_command.specs.Releases.{Releases, ReleasesAt}
use Rattle.relup_command.specs.declared.error.RelupError.{RelupError}
use Rattle.relup_command.specs.declared.error.RelupError.TheVariants.{Files, Appups}

-- The relup is the translation of what the files say.
abbrev pub IsMadeOf : Source → List ℕ → List (List ℕ) → List (List ℕ) → RelupForm → Type 0
IsMadeOf source new ups downs relup =
    (all : Releases) × ReleasesAt source new ups downs (Ok all) × (translation all.new all.ups all.downs ≡ Ok relup)

-- The first file that isn't taken is reported, and else the translation's fault. Out of memory says nothing of them.
abbrev pub IsRefusalOf : Source → List ℕ → List (List ℕ) → List (List ℕ) → RelupError → Type 0
IsRefusalOf source new ups downs (Files e) = e ≢ NoMemory → ReleasesAt source new ups downs (Err (refusal_of e))
IsRefusalOf source new ups downs (Appups e) =
    (all : Releases) × ReleasesAt source new ups downs (Ok all) × Refuses (translation all.new all.ups all.downs) e

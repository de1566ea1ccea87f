-- The releases that a relup is made of, from their files.
use Rattle.std.specs.Prelude.{◌≡◌, ℕ, List, map, None, Ok, Err, if◌then◌else◌}
use Rattle.rel_files.specs.AppFile.{Specification, has_few_modules}
use Rattle.rel_files.specs.Release.{Application, Release}
use Rattle.rel_files.specs.declared.release.StartType.{StartType}
use Rattle.rel_unpack.specs.Applications.{AppAt}
use Rattle.rel_unpack.specs.Order.{Outcome, Then, Each}
use Rattle.rel_unpack.specs.Refusal.Refusal.{too_many}
use Rattle.rel_unpack.specs.Release.{ReleaseAt}
use Rattle.rel_unpack.specs.Source.{Source}
use Rattle.relup_row.specs.Release.{RelupAppForm, RelupReleaseForm, relup_release_of}
use Rattle.relup_command.specs.Appups.{WithAppup}
use Rattle.relup_command.specs.declared.releases.Releases.{Releases as ReleasesInMemory}

-- an application of a release with its modules, and without its appup
abbrev pub relup_app : StartType → Specification → RelupAppForm
relup_app start s = record { name = s.name; vsn = s.vsn; start = start; modules = s.modules; appup = None }

-- the application from its `.app` file
abbrev pub RelupAppAt : Source → Application → Outcome RelupAppForm
RelupAppAt source a = Then (AppAt source a) (λ s r. r ≡ (if has_few_modules s then Ok (relup_app a.start s) else Err too_many))

-- a release with these applications
abbrev pub relup_release : Release → List RelupAppForm → RelupReleaseForm
relup_release release apps = record { vsn = release.vsn; erts = release.erts; apps = apps }

-- the release of a path with its applications, from its `.rel` file and their `.app` files
abbrev pub RelupReleaseAt : Source → List ℕ → Outcome RelupReleaseForm
RelupReleaseAt source path =
    Then (ReleaseAt source path) (λ f.
    Then (Each (RelupAppAt source) f.release.apps) (λ apps r. r ≡ Ok (relup_release f.release apps)))

-- a release with the appups of its applications
abbrev pub WithAppups : Source → RelupReleaseForm → Outcome RelupReleaseForm
WithAppups source release =
    Then (Each (WithAppup source) release.apps) (λ apps r. r ≡ Ok (record { vsn = release.vsn; erts = release.erts; apps = apps }))

-- a release, those that it comes from, and those that it goes back to
pub record Releases : Type 0 where
  pub new : RelupReleaseForm
  pub ups : List RelupReleaseForm
  pub downs : List RelupReleaseForm

abbrev pub releases_of : ReleasesInMemory → Releases
releases_of r = record { new = relup_release_of r.new; ups = map relup_release_of r.ups.items; downs = map relup_release_of r.downs.items }

-- The releases of some paths. The appups of the new one are read after all other files.
abbrev pub ReleasesAt : Source → List ℕ → List (List ℕ) → List (List ℕ) → Outcome Releases
ReleasesAt source new ups downs =
    Then (RelupReleaseAt source new) (λ release.
    Then (Each (RelupReleaseAt source) ups) (λ lower.
    Then (Each (RelupReleaseAt source) downs) (λ back.
    Then (WithAppups source release) (λ whole r. r ≡ Ok (record { new = whole; ups = lower; downs = back })))))

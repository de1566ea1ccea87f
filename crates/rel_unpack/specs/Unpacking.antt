-- What a release brings: the libraries of its applications and its relup, from their files, and why it is refused for them.
use Rattle.std.specs.Prelude.{◌≡◌, ℕ, List, Option, None, Some, Result, Ok, map}
use Rattle.std.specs.Option.{option_map, option_or}
use Rattle.std.specs.Result.{result_err, result_map_both, result_unwrap_or}
use Rattle.rel_files.specs.Fault.Fault.{duplicate}
use Rattle.rel_files.specs.Release.{Application}
use Rattle.library.specs.InMemory.{shared_of}
use Rattle.library.specs.Library.{Library}
use Rattle.rel_check.specs.Fault.{Fault, release_fault}
use Rattle.rel_check.specs.Fault.Fault.{module_twice, id_twice, no_table as has_no_table, too_many as passes_a_limit, no_memory as lacks_memory}
use Rattle.rel_check.specs.Names.{Named}
use Rattle.rel_unpack.specs.Applications.{LibrariesAt}
use Rattle.rel_unpack.specs.Order.{Outcome, Then}
use Rattle.rel_unpack.specs.Paths.{app_path}
use Rattle.rel_unpack.specs.Refusal.{Refusal, refusal_of}
use Rattle.rel_unpack.specs.Refusal.Refusal.{bad_file, no_table, too_many, no_memory}
use Rattle.rel_unpack.specs.Refusal.Trouble.{faulty}
use Rattle.rel_unpack.specs.Release.{Found, ReleaseAt, found_of}
use Rattle.rel_unpack.specs.Relup.{RelupAt, RelupFound, relup_found_of}
use Rattle.rel_unpack.specs.Source.{Source}
use Rattle.relup_file.specs.declared.reader.RelupFile.{RelupFile}
use Rattle.rel_unpack.specs.declared.applications.ApplicationFiles.{ApplicationFiles}
use Rattle.rel_unpack.specs.declared.error.UnpackError.{UnpackError}
use Rattle.rel_unpack.specs.declared.unpacking.ReleaseFiles.{ReleaseFiles}

-- A name that stands twice is a duplicate in the `.app` file of the application where it stands again.
abbrev pub twice_in : Named → Refusal
twice_in n = bad_file (app_path n.app) (faulty (duplicate n.name))

-- what is reported of a fault of the release as a whole
abbrev pub refusal_for : Fault → Refusal
refusal_for (module_twice n) = twice_in n
refusal_for (id_twice n) = twice_in n
refusal_for (has_no_table m) = no_table m
refusal_for passes_a_limit = too_many
refusal_for lacks_memory = no_memory

-- The libraries that a release of these applications brings, and why it is refused: for the first file that isn't taken, or,
-- once all are read, for the first fault of the release as a whole.
abbrev pub UnpackedLibraries : Source → List Application → List Library → Option Refusal → Type 0
UnpackedLibraries source apps ls why =
    (read : Option Refusal) × LibrariesAt source apps ls read × (why ≡ option_or read (option_map refusal_for (release_fault apps ls)))

-- What is read of the relup of a release: nothing, where the release is refused for its applications.
abbrev pub RelupRead : Source → List ℕ → List ℕ → Option Refusal → Outcome (Option RelupFound)
RelupRead source path vsn None = RelupAt source path vsn
RelupRead source path vsn (Some why) = λ r. r ≡ Ok None

-- What a release and its files give: the libraries of its applications in their order, and why it is refused for them, if
-- it is. Then these are the libraries before the first refusal, or all of them where that is of the release as a whole. Else
-- its relup, if it has one, and why it is refused for that, if it is.
pub record Brought : Type 0 where
  pub found : Found
  pub libraries : List Library
  pub refusal : Option Refusal
  pub relup : Option RelupFound
  pub relup_refusal : Option Refusal

-- with what was read of the relup
abbrev pub brought_with : Found → List Library → Option Refusal → Result (Option RelupFound) Refusal → Brought
brought_with f ls why read = record { found = f; libraries = ls; refusal = why; relup = result_unwrap_or read None; relup_refusal = result_err read }

-- What a release of this path brings that was found. Why its applications are refused, and why its relup is, are reported
-- separately, so that what the list of releases says of it can stand between them.
abbrev pub WithFiles : Source → List ℕ → Found → Outcome Brought
WithFiles source path f r =
    (ls : List Library) × (why : Option Refusal) × UnpackedLibraries source f.release.apps ls why
    × ((read : Result (Option RelupFound) Refusal) × RelupRead source path f.release.vsn why read × (r ≡ Ok (brought_with f ls why read)))

-- what the release of a path brings
abbrev pub BroughtAt : Source → List ℕ → Outcome Brought
BroughtAt source path = Then (ReleaseAt source path) (WithFiles source path)

abbrev pub libraries_of : ApplicationFiles → List Library
libraries_of f = map shared_of f.libraries.items

abbrev pub refusal_in : ApplicationFiles → Option Refusal
refusal_in f = option_map refusal_of f.refusal

abbrev pub relup_read_of : Result (Option RelupFile) UnpackError → Result (Option RelupFound) Refusal
relup_read_of r = result_map_both (option_map relup_found_of) refusal_of r

abbrev pub brought_of : ReleaseFiles → Brought
brought_of r = brought_with (found_of r.file) (libraries_of r.applications) (refusal_in r.applications) (relup_read_of r.relup)

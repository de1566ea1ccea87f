-- What a refusal is about, and how a program ends with it.
use Rattle.std.specs.Prelude.{◌≡◌, ◌⊎◌, ℕ, Bool, true, false, List, ◌++◌, Option, None, Some, Ok, Err, codes, string_bytes}
use Rattle.std.specs.Option.{option_and_then}
use Rattle.erl_term.specs.Value.{Value}
use Rattle.file_source.specs.declared.files.FilesError.{FilesError}
use Rattle.rel_files.specs.OneTermFile.{HasFileTerm}
use Rattle.rel_unpack.specs.Source.{Source}
use Rattle.rel_unpack.specs.declared.error.FileTrouble.TheVariants.{Unreadable, Misshapen}
use Rattle.rel_unpack.specs.declared.error.UnpackError.TheVariants as unpack
use Rattle.appup_file.specs.declared.shape.ShapeFault.{ShapeFault}
use Rattle.appup_file.specs.Shape.{shape_fault}
use Rattle.relup_row.specs.Release.{RelupAppForm, RelupReleaseForm, app_named}
use Rattle.relup_translate.specs.declared.error.TranslateError.TheVariants as translate
use Rattle.release_relup.specs.declared.error.MakeError.{MakeError}
use Rattle.release_relup.specs.declared.error.MakeError.TheVariants.{Files, Pattern, Translation, Refused, NoMemory}

-- no memory was left, wherever it was wanted
abbrev pub is_no_memory : MakeError → Bool
is_no_memory NoMemory = true
is_no_memory (Files unpack.NoMemory) = true
is_no_memory (Translation translate.NoMemory) = true
is_no_memory e = false

-- a file is there, and can't be read
abbrev pub is_unreadable : MakeError → Bool
is_unreadable (Files (unpack.BadFile path Unreadable)) = true
is_unreadable e = false

-- lib/App-Vsn/ebin/App.appup
abbrev pub appup_file : List ℕ → List ℕ → List ℕ
appup_file name vsn = codes "lib/" ++ (name ++ (codes "-" ++ (vsn ++ (codes "/ebin/" ++ (name ++ codes ".appup")))))

abbrev pub appup_or : List ℕ → Option RelupAppForm → List ℕ
appup_or path None = path
appup_or path (Some a) = appup_file a.name a.vsn

-- the appup of an application of the new release, and the file of that release itself where it has no such application
abbrev pub appup_named : List ℕ → Option RelupReleaseForm → List ℕ → List ℕ
appup_named path new name = appup_or path (option_and_then (app_named name) new)

-- The file that an error is about: the one that it names, the appup of the application that it names, or the file of the new release.
abbrev pub file_at_fault : List ℕ → Option RelupReleaseForm → MakeError → List ℕ
file_at_fault path new (Files (unpack.MissingFile file)) = string_bytes file
file_at_fault path new (Files (unpack.BadFile file t)) = string_bytes file
file_at_fault path new (Files (unpack.VsnMismatch file)) = string_bytes file
file_at_fault path new (Pattern b) = appup_named path new (string_bytes b.app)
file_at_fault path new (Refused x) = appup_named path new (string_bytes x.app)
file_at_fault path new (Translation (translate.NoAppup app)) = appup_named path new (string_bytes app)
file_at_fault path new (Translation (translate.NoEntry app vsn)) = appup_named path new (string_bytes app)
file_at_fault path new (Translation (translate.Unsupported app)) = appup_named path new (string_bytes app)
file_at_fault path new e = path

-- The file is that of the error. Out of memory is about none.
abbrev pub IsFileOf : List ℕ → Option RelupReleaseForm → MakeError → List ℕ → Type 0
IsFileOf path new NoMemory file = Unit {0}
IsFileOf path new e file = file ≡ file_at_fault path new e

-- What is none in bytes: what their term has none of, and nothing where they haven't one term.
pub record PlaceIn (bytes : List ℕ) (place : Option ShapeFault) : Type 0 where
  pub found : (v : Value) → HasFileTerm bytes v → place ≡ shape_fault v
  pub missing : ((v : Value) → HasFileTerm bytes v → ⊥) → place ≡ None

-- What is none in the file of a path: nothing where it isn't read any more.
abbrev pub PlaceAt : Source → List ℕ → Option ShapeFault → Type 0
PlaceAt source path place =
    ((bytes : List ℕ) × source path (Ok bytes) × PlaceIn bytes place) ⊎ ((e : FilesError) × source path (Err e) × (place ≡ None))

-- The place of an error: what is none in the appup that it is about, if its term says none.
abbrev pub HasPlace : Source → MakeError → Option ShapeFault → Type 0
HasPlace source (Files (unpack.BadFile path Misshapen)) place = PlaceAt source (string_bytes path) place
HasPlace source e place = place ≡ None

-- The line begins with the file.
abbrev pub IsLineOf : List ℕ → List ℕ → Type 0
IsLineOf file line = (what : List ℕ) × (line ≡ file ++ (codes ": " ++ what))

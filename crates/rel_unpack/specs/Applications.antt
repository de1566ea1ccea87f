-- The libraries of a release's applications, from their files.
use Rattle.std.specs.Prelude.{◌≡◌, ℕ, Bool, ◌&&◌, List, [], ◌∷◌, Option, None, Some, if◌then◌else◌, Ok, Err}
use Rattle.std.specs.Str.{bytes_eq}
use Rattle.rel_files.specs.Kind.{HasFault}
use Rattle.rel_files.specs.Release.{Application}
use Rattle.rel_files.specs.AppFile.{Specification, SaysApp, app_files}
use Rattle.mod_table.specs.File.{SaysWith, name_of, mod_files}
use Rattle.library.specs.Library.{Library, TableTerm}
use Rattle.rel_unpack.specs.Refusal.{Refusal, IsFault}
use Rattle.rel_unpack.specs.Refusal.Refusal.{vsn_mismatch}
use Rattle.rel_unpack.specs.Order.{Outcome, Then, Each}
use Rattle.rel_unpack.specs.Paths.{app_path, mod_path}
use Rattle.rel_unpack.specs.Source.{Source, Form, FileSays, IfThere}

abbrev pub app_form : Form Specification
app_form = record { says = λ bytes s. SaysApp bytes s; fails = λ bytes t. IsFault (HasFault app_files bytes) t }

abbrev pub mod_form : Form TableTerm
mod_form = record { says = λ bytes t. SaysWith bytes t.term t.table; fails = λ bytes t. IsFault (HasFault mod_files bytes) t }

-- it is of the name and the version that the release says
abbrev pub is_named : Application → Specification → Bool
is_named a s = bytes_eq s.name a.name && bytes_eq s.vsn a.vsn

-- what the `.app` file of an application says
abbrev pub AppAt : Source → Application → Outcome Specification
AppAt source a = Then (FileSays app_form source (app_path a)) (λ s r. r ≡ (if is_named a s then Ok s else Err (vsn_mismatch (app_path a))))

-- it is of the module that its path says
abbrev pub is_of : List ℕ → TableTerm → Bool
is_of m t = bytes_eq (name_of t.table) m

-- what the `.mod` file of a module says
abbrev pub TableAt : Source → Application → List ℕ → Outcome TableTerm
TableAt source a m =
    Then (FileSays mod_form source (mod_path a m)) (λ t r. r ≡ (if is_of m t then Ok t else Err (vsn_mismatch (mod_path a m))))

-- what a module has: without a file it has no table
abbrev pub ModuleAt : Source → Application → List ℕ → Outcome (Option TableTerm)
ModuleAt source a m = IfThere source (mod_path a m) (TableAt source a m)

-- the library of an application, from its files
abbrev pub LibraryAt : Source → Application → Outcome Library
LibraryAt source a = Then (AppAt source a) (λ s. Then (Each (ModuleAt source a) s.modules) (λ ts r. r ≡ Ok (record { app = s; tables = ts })))

-- The libraries of applications, in their order: all of them, or those before the first refusal.
abbrev pub LibrariesAt : Source → List Application → List Library → Option Refusal → Type 0
LibrariesAt source [] [] None = Unit {0}
LibrariesAt source (a ∷ as') [] (Some why) = LibraryAt source a (Err why)
LibrariesAt source (a ∷ as') (l ∷ ls) why = LibraryAt source a (Ok l) × LibrariesAt source as' ls why
LibrariesAt source as' ls why = ⊥

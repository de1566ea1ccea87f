-- The modules that are loaded.
use Rattle.std.specs.Prelude.{ℕ, List, [], ◌∷◌, map, not, String, string_bytes, slice_index_or, Option, Some, None, if◌then◌else◌}
use Rattle.std.specs.declared.alloc.Global.{Global}
use Rattle.std.specs.BTreeMap.{BTreeMap, get_by_text, insert_entry}
use Rattle.std.specs.List.{filter}
use Rattle.std.specs.Map.{lookup}
use Rattle.std.specs.Cmp.Lexicographic.{slice_cmp}
use Rattle.std.specs.Option.{option_map, option_or, option_and_then}
use Rattle.std.specs.Ordering.{nat_cmp}
use Rattle.std.specs.Str.{bytes_eq}
use Rattle.library.specs.Library.{Specification, vsn_of, Library, TableTerm}
use Rattle.library.specs.Table.{Table}
use Rattle.library.specs.InMemory.{shared_of}
use Rattle.library.specs.Tables.{Tables}
use Rattle.loaded_modules.specs.declared.loaded.LoadedModule.{LoadedModule}
use Rattle.loaded_modules.specs.declared.loaded.Loaded.{Loaded}

-- a module that is loaded: its version, and its table, where it has one
pub record Module : Type 0 where
  pub vsn : List ℕ
  pub table : Option Table

-- what is loaded, by the names of modules
abbrev pub Modules : Type 0
Modules = List ℕ → Option Module

-- a module without a table has the version of its application
abbrev pub module_of : Specification → Option TableTerm → Module
module_of app None = record { vsn = app.vsn; table = None }
module_of app (Some t) = record { vsn = vsn_of t.table; table = Some t.table }

-- each name with what is in its place; of several of one name the last
abbrev pub modules_with : Specification → List (List ℕ) → List (Option TableTerm) → Modules
modules_with app (m ∷ ms) (t ∷ ts) name = option_or (modules_with app ms ts name) (if bytes_eq m name then Some (module_of app t) else None)
modules_with app ms ts name = None

-- those of a library
abbrev pub library_modules : Library → Modules
library_modules l name = modules_with l.app l.app.modules l.tables name

-- those of all libraries: of two of one name that of the later library
abbrev pub modules_of : List Library → Modules
modules_of [] name = None
modules_of (l ∷ ls) name = option_or (modules_of ls name) (library_modules l name)

-- the tables of what is loaded
abbrev pub tables_of : Modules → Tables
tables_of ms name = option_and_then (λ (m : Module). m.table) (ms name)

-- what a library has at a place
abbrev pub module_at : Library → ℕ → Module
module_at l place = module_of l.app (slice_index_or l.tables place None)

abbrev pub module_in : LoadedModule → Module
module_in m = module_at (shared_of m.library) m.place

abbrev pub modules_in_map : BTreeMap (String Global) LoadedModule → Modules
modules_in_map ms name = option_map module_in (get_by_text ms name)

abbrev pub modules_in : Loaded → Modules
modules_in l name = modules_in_map l.modules name

-- Modules with their names. What is loaded is listed by the bytes of the names.
abbrev pub NamedModules : Type 0
NamedModules = List (List ℕ × Module)

-- the module of this name
abbrev pub module_named : List ℕ → NamedModules → Option Module
module_named name ms = lookup (bytes_eq name) ms

-- a module is loaded in place of what had its name; where there is none, nothing changes
abbrev pub with_loaded : Option Module → List ℕ → NamedModules → NamedModules
with_loaded None name ms = ms
with_loaded (Some m) name ms = insert_entry (slice_cmp nat_cmp) ms name m

-- the module of this name isn't loaded any more
abbrev pub without_module : List ℕ → NamedModules → NamedModules
without_module name ms = filter (λ (m : List ℕ × Module). not (bytes_eq name m.0)) ms

abbrev pub name_and_version : List ℕ × Module → List ℕ × List ℕ
name_and_version m = (m.0, m.1.vsn)

-- each name with what is in its place
abbrev pub named_modules : Specification → List (List ℕ) → List (Option TableTerm) → NamedModules
named_modules app (m ∷ ms) (t ∷ ts) = (m, module_of app t) ∷ named_modules app ms ts
named_modules app ms ts = []

-- these modules are loaded one after another: each stands in its place, and one of its name that stood there is replaced
abbrev pub loaded_behind : NamedModules → NamedModules → NamedModules
loaded_behind before [] = before
loaded_behind before (m ∷ ms) = loaded_behind (insert_entry (slice_cmp nat_cmp) before m.0 m.1) ms

abbrev pub libraries_behind : NamedModules → List Library → NamedModules
libraries_behind before [] = before
libraries_behind before (l ∷ ls) = libraries_behind (loaded_behind before (named_modules l.app l.app.modules l.tables)) ls

-- what is loaded where all modules of these libraries are
abbrev pub listed_modules : List Library → NamedModules
listed_modules ls = libraries_behind [] ls

abbrev pub named_in : String Global × LoadedModule → List ℕ × Module
named_in e = (string_bytes e.0, module_in e.1)

abbrev pub listed_in_map : BTreeMap (String Global) LoadedModule → NamedModules
listed_in_map ms = map named_in ms.entries

abbrev pub listed_in : Loaded → NamedModules
listed_in l = listed_in_map l.modules

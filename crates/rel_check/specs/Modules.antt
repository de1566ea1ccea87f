-- The applications of a release with their libraries, and the modules that these have.
use Rattle.std.specs.Prelude.{ℕ, List, [], ◌∷◌, Option, None, if◌then◌else◌}
use Rattle.std.specs.List.{flat_map}
use Rattle.std.specs.Option.{option_map, option_or}
use Rattle.std.specs.Str.{bytes_eq}
use Rattle.rel_files.specs.Release.{Application}
use Rattle.mod_table.specs.declared.table.Table.{Table}
use Rattle.mod_table.specs.Tables.{Tables}
use Rattle.library.specs.Library.{Library, TableTerm}

-- an application of a release, with its library
pub record Part : Type 0 where
  pub app : Application
  pub library : Library

-- each application with the library in its place
abbrev pub parts : List Application → List Library → List Part
parts (a ∷ as') (l ∷ ls) = record { app = a; library = l } ∷ parts as' ls
parts as' ls = []

-- a module, the application that lists it, and its table, where it has one
pub record Module : Type 0 where
  pub name : List ℕ
  pub app : Application
  pub table : Option Table

abbrev pub table_in : Option TableTerm → Option Table
table_in t = option_map (λ (f : TableTerm). f.table) t

-- each name with the table in its place
abbrev pub modules_with : Application → List (List ℕ) → List (Option TableTerm) → List Module
modules_with a (m ∷ ms) (t ∷ ts) = record { name = m; app = a; table = table_in t } ∷ modules_with a ms ts
modules_with a ms ts = []

-- the modules that an application lists
abbrev pub modules_of : Part → List Module
modules_of p = modules_with p.app p.library.app.modules p.library.tables

-- those of all applications, in their order
abbrev pub modules_in : List Part → List Module
modules_in ps = flat_map modules_of ps

-- the table of a module of this name; of several modules the last that has one, and where modules are distinct there is one
abbrev pub table_of : List Module → Tables
table_of [] name = None
table_of (m ∷ ms) name = option_or (table_of ms name) (if bytes_eq m.name name then m.table else None)

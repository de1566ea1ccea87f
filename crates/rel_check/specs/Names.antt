-- Names that stand twice in the files of a release: modules in all of them, children in those of one application.
use Rattle.std.specs.Prelude.{ℕ, Bool, false, ◌||◌, List, [], ◌∷◌, map, Option, None, Some, if◌then◌else◌}
use Rattle.std.specs.List.{flat_map}
use Rattle.std.specs.Option.{option_or}
use Rattle.std.specs.Str.{bytes_eq}
use Rattle.rel_files.specs.Release.{Application}
use Rattle.mod_table.specs.File.{ids_of}
use Rattle.library.specs.Library.{TableTerm, tables_there}
use Rattle.rel_check.specs.Modules.{Part, Module, modules_in}

-- a name, and the application whose files have it
pub record Named : Type 0 where
  pub name : List ℕ
  pub app : Application

-- the first name that was met before, with its application
abbrev pub first_met : (List ℕ → Bool) → List Named → Option Named
first_met met [] = None
first_met met (n ∷ ns) = if met n.name then Some n else first_met (λ m. bytes_eq n.name m || met m) ns

-- the first name that stands a second time, with the application where it does
abbrev pub first_again : List Named → Option Named
first_again ns = first_met (λ m. false) ns

abbrev pub named_by : Application → List (List ℕ) → List Named
named_by a names = map (λ (n : List ℕ). record { name = n; app = a }) names

-- the names of modules
abbrev pub module_names : List Module → List Named
module_names ms = map (λ (m : Module). record { name = m.name; app = m.app }) ms

-- the first module that stands in two applications, with the second of them; the modules of one application are distinct, by
-- its file
abbrev pub first_module_again : List Part → Option Named
first_module_again ps = first_again (module_names (modules_in ps))

-- the ids of the children in these tables
abbrev pub ids_in : List TableTerm → List (List ℕ)
ids_in ts = flat_map (λ (t : TableTerm). ids_of t.table) ts

-- the ids of the children in all tables of an application
abbrev pub child_ids : Part → List Named
child_ids p = named_by p.app (ids_in (tables_there p.library.tables))

-- the first id that two children in the tables of one application have
abbrev pub first_id_again : List Part → Option Named
first_id_again [] = None
first_id_again (p ∷ ps) = option_or (first_again (child_ids p)) (first_id_again ps)

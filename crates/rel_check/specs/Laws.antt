-- Laws of the walk through a release, and of its names.
use Rattle.std.specs.Prelude.{◌≡◌, ◌↔◌, ℕ, ◌+◌, true, false, List, ◌∷◌, ◌++◌, map, None, Some, Contains}
use Rattle.mod_table.specs.declared.table.Table.{Table}
use Rattle.mod_table.specs.declared.table.Table.TheVariants.{Super}
use Rattle.mod_table.specs.Table.{ChildSpec, SuperTable}
use Rattle.rel_files.specs.Name.{AreDistinct}
use Rattle.rel_check.specs.Modules.{Part, Module, modules_in}
use Rattle.mod_table.specs.Tables.{Tables, child_table}
use Rattle.rel_check.specs.Names.{Named, first_again, first_module_again}
use Rattle.rel_check.specs.Walk.{missing_below, processes_from, is_within, tables_of, first_missing}

-- Where supervisors keep within a number of them in each other, a walk that may go deeper finds the same.
abbrev pub DeeperFindsTheSame : Type 0
DeeperFindsTheSame = (tables : Tables) (n k : ℕ) (t : Table) → is_within n tables t ≡ true
    → (missing_below (n + k) tables t ≡ missing_below n tables t)
    × (processes_from (n + k) tables t ≡ processes_from n tables t)
    × (is_within (n + k) tables t ≡ true)

-- a supervisor is a child of another, or a child of one that is below it
pub data IsBelow (tables : Tables) : SuperTable → SuperTable → Type 0 where
  child : (s t : SuperTable) (c : ChildSpec) → Contains s.children c → child_table tables c ≡ Some (Super t) → IsBelow tables s t
  further : (s t u : SuperTable) → IsBelow tables s t → IsBelow tables t u → IsBelow tables s u

-- A supervisor within itself keeps within no number of them.
abbrev pub WithinItselfIsTooDeep : Type 0
WithinItselfIsTooDeep = (tables : Tables) (s : SuperTable) → IsBelow tables s s → (n : ℕ) → is_within n tables (Super s) ≡ false

-- No name stands a second time exactly where names are distinct.
abbrev pub NoneAgainWhereDistinct : Type 0
NoneAgainWhereDistinct = (ns : List Named) → (first_again ns ≡ None) ↔ AreDistinct (map (λ (n : Named). n.name) ns)

-- Of these names this is the first that stands a second time, with the application where it does.
pub record IsFirstAgain (ns : List Named) (n : Named) : Type 0 where
  pub before : List Named
  pub after : List Named
  pub is : ns ≡ before ++ (n ∷ after)
  pub distinct : AreDistinct (map (λ (m : Named). m.name) before)
  pub again : Contains (map (λ (m : Named). m.name) before) n.name

abbrev pub FindsFirstAgain : Type 0
FindsFirstAgain = (ns : List Named) (n : Named) → (first_again ns ≡ Some n) ↔ IsFirstAgain ns n

-- Where no module stands in two applications, each has its own table.
abbrev pub EachHasItsTable : Type 0
EachHasItsTable = (ps : List Part) (m : Module) → first_module_again ps ≡ None → Contains (modules_in ps) m → tables_of ps m.name ≡ m.table

-- a module is named as the top of an application, or as that of a child in a table
pub data IsNamedIn (ps : List Part) : List ℕ → Type 0 where
  as_top : (p : Part) (m : List ℕ) → Contains ps p → p.library.app.top ≡ Some m → IsNamedIn ps m
  as_child : (m : Module) (s : SuperTable) (c : ChildSpec) → Contains (modules_in ps) m → m.table ≡ Some (Super s) → Contains s.children c → IsNamedIn ps c.start

-- A module that is reported as missing is named in the release.
abbrev pub MissingIsNamed : Type 0
MissingIsNamed = (ps : List Part) (m : List ℕ) → first_missing ps ≡ Some m → IsNamedIn ps m

-- Processes whose modules have versions.
use Rattle.std.specs.Prelude.{◌≡◌, ℕ, List, Option, Some}
use Rattle.std.specs.List.{AllByRecursion}
use Rattle.rel_files.specs.Name.{IsVersion}
use Rattle.mod_table.specs.declared.table.Table.{Table}
use Rattle.mod_table.specs.declared.table.Table.TheVariants.{Worker}
use Rattle.proc_history.specs.declared.value.Now.{Now}
use Rattle.proc_history.specs.declared.value.Value.{Value}
use Rattle.loaded_modules.specs.Loaded.{Module}
use Rattle.node_processes.specs.Processes.{Processes}

-- a process that stands in the slot has a module whose version is one
abbrev pub HasModuleVersion : Value → Type 0
HasModuleVersion v = (n : Now) → v.now ≡ Some n → IsVersion n.table.vsn

-- The table of a worker has a version of files.
abbrev pub HasTableVersion : Option Table → Type 0
HasTableVersion (Some (Worker w)) = IsVersion w.vsn
HasTableVersion t = Unit {0}

-- The processes have such modules, and what is loaded has such tables.
pub record HaveModuleVersions (ps : Processes) : Type 0 where
  pub values : AllByRecursion HasModuleVersion ps.values
  pub modules : AllByRecursion (λ (m : List ℕ × Module). HasTableVersion m.1.table) ps.modules

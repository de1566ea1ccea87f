-- The processes of a node, without where they lie in memory.
use Rattle.std.specs.Prelude.{ℕ, List, Option}
use Rattle.proc_history.specs.declared.value.Value.{Value}
use Rattle.proc_table.specs.declared.pid.Pid.{Pid}
use Rattle.loaded_modules.specs.Loaded.{NamedModules}
use Rattle.sup_tree.specs.Tree.{App, find_process}

-- What stands in each slot, in order; the started applications, in the order of their starts; and what is loaded, by the bytes
-- of the names of modules.
pub record Processes : Type 0 where
  pub values : List Value
  pub apps : List App
  pub modules : NamedModules

-- where the process of the application of this name with this id is
abbrev pub process_named : List ℕ → List ℕ → Processes → Option Pid
process_named app id ps = find_process app id ps.apps

-- What is wrong with a release as a whole, once each of its files was read; docs/RULES.md gives the limits.
use Rattle.std.specs.Prelude.{◌≡◌, ◌≢◌, ℕ, Bool, true, ◌&&◌, List, length, nat_le, Option, None, Some, Result, Ok, Err, if◌then◌else◌}
use Rattle.std.specs.List.{list_all}
use Rattle.std.specs.Option.{option_map, option_or, option_map_or}
use Rattle.rel_files.specs.AppFile.{has_few_modules}
use Rattle.rel_files.specs.Release.{Application}
use Rattle.mod_table.specs.declared.table.Table.{Table}
use Rattle.mod_table.specs.declared.table.Table.TheVariants.{Worker, Super}
use Rattle.library.specs.Library.{Library}
use Rattle.rel_check.specs.declared.fault.ReleaseFault.{ReleaseFault}
use Rattle.rel_check.specs.declared.fault.ReleaseFault.TheVariants.{ModuleTwice, IdTwice, NoTable, TooMany, NoMemory}
use Rattle.rel_check.specs.Modules.{Part, Module, parts, modules_in}
use Rattle.rel_check.specs.Names.{Named, first_module_again, first_id_again}
use Rattle.rel_check.specs.InMemory.{named_of}
use Rattle.rel_check.specs.Walk.{first_missing, processes_in, are_within}

-- what is wrong with a release: a module of two applications, with the second; an id of two children in an application; a
-- module without the table that is asked of it; a limit that is passed
pub data Fault : Type 0 where
  module_twice : Named → Fault
  id_twice : Named → Fault
  no_table : List ℕ → Fault
  too_many : Fault
  no_memory : Fault

-- a fault without where it lies in memory
abbrev pub fault_of : ReleaseFault → Fault
fault_of (ModuleTwice n) = module_twice (named_of n)
fault_of (IdTwice n) = id_twice (named_of n)
fault_of (NoTable m) = no_table m.now
fault_of TooMany = too_many
fault_of NoMemory = no_memory

-- the application has no more modules than it may have
abbrev pub few_modules_in : Part → Bool
few_modules_in p = has_few_modules p.library.app

abbrev pub rows_are_few : Table → Bool
rows_are_few (Worker w) = nat_le (length w.rows) 4096
rows_are_few (Super s) = true

abbrev pub has_few_rows : Module → Bool
has_few_rows m = option_map_or rows_are_few m.table true

-- no limit is passed
abbrev pub keeps_limits : List Part → Bool
keeps_limits ps =
    list_all few_modules_in ps
    && (list_all has_few_rows (modules_in ps) && (are_within ps && nat_le (processes_in ps) 256))

-- the first fault, in this order
abbrev pub first_fault : List Part → Option Fault
first_fault ps =
    option_or (option_map module_twice (first_module_again ps))
    (option_or (option_map id_twice (first_id_again ps))
    (option_or (option_map no_table (first_missing ps))
    (if keeps_limits ps then None else Some too_many)))

-- the first fault of a release of these applications, with their libraries in the same order
abbrev pub release_fault : List Application → List Library → Option Fault
release_fault as' ls = first_fault (parts as' ls)

-- the answer is this fault, or none where there is none; or that no memory was left
abbrev pub Reports : {X : Type 0} → Result X ReleaseFault → Option Fault → Type 0
Reports (Ok u) f = f ≡ None
Reports (Err e) f = e ≢ NoMemory → f ≡ Some (fault_of e)

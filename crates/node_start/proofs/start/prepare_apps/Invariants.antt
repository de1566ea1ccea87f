use Rattle.std.specs.List.{AllByRecursion}
use Rattle.std.proofs.Common.{map}
use Rattle.library.specs.InMemory.{shared_of}
use Rattle.loaded_modules.specs.Loaded.{modules_in, tables_of}
use Rattle.node_processes.specs.Fresh.{started_parts}
use Rattle.node_start.specs.Starting.{HasNoFault}
use Rattle.node_start.proofs.StartLemmas.{TakesAll, left_from}
use Rattle.rel_check.specs.Modules.{parts}
use Rattle.rel_files.specs.Release.{application_of}
use Rattle.node_start.proofs.start.prepare_apps.Given as goal

-- nothing is wrong with those that are left, and memory for them completes what was taken
abbrev pub invariant-loop-place : goal.invariant-loop-place
invariant-loop-place l =
    let tables = tables_of (modules_in l.loaded) in
    let left = left_from l.apps l.libraries l.place in record {
      sound : AllByRecursion (HasNoFault tables) left;
      taken : TakesAll tables (started_parts (parts (map application_of l.apps) (map shared_of l.libraries))) l.prepared.items left;
    }

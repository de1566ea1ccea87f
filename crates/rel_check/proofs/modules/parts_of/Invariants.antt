use Rattle.std.proofs.Common.{◌≡◌, ◌++◌, map, drop}
use Rattle.rel_files.specs.Release.{application_of}
use Rattle.library.specs.InMemory.{shared_of}
use Rattle.rel_check.specs.Modules.{parts}
use Rattle.rel_check.specs.InMemory.{part_of}
use Rattle.rel_check.proofs.modules.parts_of.Given as goal

abbrev pub invariant-loop-app : goal.invariant-loop-app
invariant-loop-app l =
    map part_of l.found.items ++ parts (map application_of (drop l.app-index l.apps)) (map shared_of l.others)
    ≡ parts (map application_of l.apps) (map shared_of l.libraries)

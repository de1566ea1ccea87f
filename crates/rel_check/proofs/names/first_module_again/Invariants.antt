use Rattle.std.proofs.Common.{◌≡◌, ◌++◌, map, drop}
use Rattle.rel_check.specs.InMemory.{module_of, named_of}
use Rattle.rel_check.specs.Names.{module_names}
use Rattle.rel_check.proofs.names.first_module_again.Given as goal

abbrev pub invariant-loop-module : goal.invariant-loop-module
invariant-loop-module l =
    map named_of l.names.items ++ module_names (map module_of (drop l.module-index l.modules)) ≡ module_names (map module_of l.modules)

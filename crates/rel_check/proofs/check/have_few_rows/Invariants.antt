use Rattle.std.proofs.Common.{◌≡◌, map, drop}
use Rattle.std.specs.List.{list_all}
use Rattle.rel_check.specs.InMemory.{module_of}
use Rattle.rel_check.specs.Fault.{has_few_rows}
use Rattle.rel_check.proofs.check.have_few_rows.Given as goal

abbrev pub invariant-loop-module : goal.invariant-loop-module
invariant-loop-module l = list_all has_few_rows (map module_of (drop l.module-index l.modules)) ≡ list_all has_few_rows (map module_of l.modules)

use Rattle.std.proofs.Common.{◌≡◌, ◌++◌, map, drop}
use Rattle.rel_check.specs.Modules.{modules_in}
use Rattle.rel_check.specs.InMemory.{part_of, module_of}
use Rattle.rel_check.proofs.modules.modules_of.Given as goal

abbrev pub invariant-loop-part : goal.invariant-loop-part
invariant-loop-part l =
    map module_of l.found.items ++ modules_in (map part_of (drop l.part-index l.parts)) ≡ modules_in (map part_of l.parts)

use Rattle.std.proofs.Common.{◌≡◌, map, drop}
use Rattle.std.specs.List.{list_all}
use Rattle.rel_check.specs.InMemory.{part_of}
use Rattle.rel_check.specs.Fault.{few_modules_in}
use Rattle.rel_check.proofs.check.have_few_modules.Given as goal

abbrev pub invariant-loop-part : goal.invariant-loop-part
invariant-loop-part l = list_all few_modules_in (map part_of (drop l.part-index l.parts)) ≡ list_all few_modules_in (map part_of l.parts)

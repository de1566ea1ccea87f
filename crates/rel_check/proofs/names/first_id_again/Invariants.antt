use Rattle.std.proofs.Common.{◌≡◌, map, drop}
use Rattle.rel_check.specs.InMemory.{part_of}
use Rattle.rel_check.specs.Names.{first_id_again}
use Rattle.rel_check.proofs.names.first_id_again.Given as goal

abbrev pub invariant-loop-part : goal.invariant-loop-part
invariant-loop-part l = first_id_again (map part_of (drop l.part-index l.parts)) ≡ first_id_again (map part_of l.parts)

use Rattle.std.proofs.Common.{◌≡◌, map, drop}
use Rattle.rel_check.specs.InMemory.{part_of}
use Rattle.rel_check.specs.Summary.{summary_of, known_in, parts_joined}
use Rattle.rel_check.proofs.walk.parts_joined.Given as goal

abbrev pub invariant-loop-part : goal.invariant-loop-part
invariant-loop-part l =
    parts_joined (known_in l.level) (summary_of l.walk) (map part_of (drop l.part-index l.parts))
    ≡ parts_joined (known_in l.level) (summary_of l.fn.start) (map part_of l.parts)

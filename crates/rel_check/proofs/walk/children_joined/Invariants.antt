use Rattle.std.proofs.Common.{◌≡◌, map, drop}
use Rattle.mod_table.specs.InMemory.{child_of}
use Rattle.rel_check.specs.Summary.{summary_of, known_in, children_joined}
use Rattle.rel_check.proofs.walk.children_joined.Given as goal

abbrev pub invariant-loop-child : goal.invariant-loop-child
invariant-loop-child l =
    children_joined (known_in l.below) (summary_of l.walk) (map child_of (drop l.child-index l.children))
    ≡ children_joined (known_in l.below) (summary_of l.fn.start) (map child_of l.children)

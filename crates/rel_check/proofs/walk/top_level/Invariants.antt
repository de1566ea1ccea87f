use Rattle.std.proofs.Common.{◌≡◌, ℕ, List, map}
use Rattle.rel_check.specs.InMemory.{module_of}
use Rattle.rel_check.specs.Modules.{table_of}
use Rattle.rel_check.specs.Summary.{known_in, known_at}
use Rattle.rel_check.proofs.walk.top_level.Given as goal

abbrev pub invariant-loop-depth : goal.invariant-loop-depth
invariant-loop-depth l = (q : List ℕ) → known_in l.level q ≡ known_at l._depth (table_of (map module_of l.modules)) q

use Rattle.std.proofs.Common.{◌≡◌, ℕ, List, map, drop}
use Rattle.std.specs.Option.{option_map, option_or}
use Rattle.rel_check.specs.InMemory.{module_of}
use Rattle.rel_check.specs.Modules.{table_of}
use Rattle.rel_check.specs.Summary.{known_in, next_summary}
use Rattle.rel_check.proofs.walk.next_level.Given as goal

abbrev pub invariant-loop-module : goal.invariant-loop-module
invariant-loop-module l =
    (q : List ℕ)
    → option_or (option_map (next_summary (option_map (λ b. known_in b.now) l.below)) (table_of (map module_of (drop l.module-index l.modules)) q)) (known_in l.level q)
    ≡ option_map (next_summary (option_map (λ b. known_in b.now) l.below)) (table_of (map module_of l.modules) q)

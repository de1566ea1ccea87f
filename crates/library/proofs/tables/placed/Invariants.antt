use Rattle.std.proofs.Common.{◌≡◌, ◌++◌, map, drop, string_bytes}
use Rattle.std.specs.Option.{option_map}
use Rattle.library.specs.InMemory.{table_term_of}
use Rattle.library.specs.Reading.{placed}
use Rattle.library.proofs.tables.placed.Given as goal

abbrev pub invariant-loop-module : goal.invariant-loop-module
invariant-loop-module l =
    option_map (λ rest. map (λ t. option_map table_term_of t) l.tables.items ++ rest) (placed (map string_bytes (drop l.module-index l.modules)) (map table_term_of l.rest.items))
    ≡ placed (map string_bytes l.modules) (map table_term_of l.fn.files.items)

use Rattle.std.proofs.Common.{◌≡◌, map, drop}
use Rattle.std.specs.Option.{option_map}
use Rattle.library.specs.InMemory.{table_term_of}
use Rattle.library.specs.Library.{are_same_tables}
use Rattle.library.proofs.library.are_same_tables.Given as goal

abbrev pub invariant-loop-table : goal.invariant-loop-table
invariant-loop-table l =
    are_same_tables (map (λ t. option_map table_term_of t) (drop l.table-index l.left)) (map (λ t. option_map table_term_of t) l.others)
    ≡ are_same_tables (map (λ t. option_map table_term_of t) l.left) (map (λ t. option_map table_term_of t) l.right)

use Rattle.std.proofs.Common.{◌≡◌, ◌++◌, map, drop}
use Rattle.std.specs.Option.{option_map}
use Rattle.erl_term.specs.Value.{value_of}
use Rattle.library.specs.InMemory.{table_term_of}
use Rattle.library.specs.Library.{tables_there}
use Rattle.library.proofs.record.table_terms.Given as goal

abbrev pub invariant-loop-table : goal.invariant-loop-table
invariant-loop-table l =
    map value_of l.terms.items ++ map (λ t. t.term) (tables_there (map (λ t. option_map table_term_of t) (drop l.table-index l.tables)))
    ≡ map (λ t. t.term) (tables_there (map (λ t. option_map table_term_of t) l.tables))

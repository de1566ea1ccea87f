use Rattle.std.proofs.Common.{◌≡◌, ◌++◌, map, drop}
use Rattle.std.specs.Option.{option_map}
use Rattle.erl_term.specs.Value.{members_of}
use Rattle.worker_table.specs.InMemory.{row_of}
use Rattle.worker_table.specs.Rows.{rows_in}
use Rattle.worker_table.proofs.row_reader.rows_in.Given as goal

abbrev pub invariant-loop-term : goal.invariant-loop-term
invariant-loop-term l = option_map (λ rs. map row_of l.rows.items ++ rs) (rows_in (members_of (drop l.term-index l.terms))) ≡ rows_in (members_of l.terms)

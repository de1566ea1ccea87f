use Rattle.std.proofs.Common.{◌≡◌, ◌++◌, drop}
use Rattle.std.specs.Option.{option_map}
use Rattle.erl_term.specs.Value.{members_of}
use Rattle.worker_table.specs.Rows.{moves_in}
use Rattle.worker_table.proofs.row_reader.moves_in.Given as goal

abbrev pub invariant-loop-term : goal.invariant-loop-term
invariant-loop-term l = option_map (λ ps. l.moves.items ++ ps) (moves_in (members_of (drop l.term-index l.terms))) ≡ moves_in (members_of l.terms)

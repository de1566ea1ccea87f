use Rattle.std.proofs.Common.{◌≡◌, drop}
use Rattle.worker_table.specs.Decide.{moved}
use Rattle.worker_table.proofs.keyed_row.moved.Given as goal

abbrev pub invariant-loop-from : goal.invariant-loop-from
invariant-loop-from l = moved (drop l.from-index l.moves) l.state ≡ moved l.moves l.state

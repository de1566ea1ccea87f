use Rattle.rel_records.proofs.Progress.{HasRead}
use Rattle.rel_records.proofs.lists.read_list.Given as goal

abbrev pub invariant-loop-i : goal.invariant-loop-i
invariant-loop-i l = HasRead l.format l.records l.i l.list

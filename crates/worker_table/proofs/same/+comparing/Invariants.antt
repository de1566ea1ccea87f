use Rattle.std.proofs.Common.{◌≡◌, drop}
use Rattle.erl_term.specs.Value.{members_of}
use Rattle.worker_table.specs.Same.{are_same}
use Rattle.worker_table.proofs.same.+comparing.Given as goal

abbrev pub invariant-are_same-loop-item : goal.invariant-are_same-loop-item
invariant-are_same-loop-item l = are_same (members_of (drop l.item-index l.left)) (members_of l.others) ≡ are_same (members_of l.left) (members_of l.right)

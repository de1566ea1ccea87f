use Rattle.std.proofs.Common.{map}
use Rattle.sup_tree.specs.Tree.{app_of}
use Rattle.sup_tree.proofs.SpotLemmas.{NotedBelow}
use Rattle.sup_tree.proofs.spots.users_at.Given as goal

abbrev pub invariant-loop-slot : goal.invariant-loop-slot
invariant-loop-slot l = NotedBelow l.«module» (map app_of l.apps) l.slot l.used

use Rattle.std.proofs.Common.{◌≡◌, map, drop}
use Rattle.sup_tree.specs.Tree.{app_of, supervises}
use Rattle.sup_tree.proofs.tree.Tree.supervises.Given as goal

abbrev pub invariant-loop-app : goal.invariant-loop-app
invariant-loop-app l = supervises l.module (map app_of (drop l.app-index l.app-items)) ≡ supervises l.module (map app_of l.app-items)

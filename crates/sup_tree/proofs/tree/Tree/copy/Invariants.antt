use Rattle.std.proofs.Common.{◌≡◌, map, take}
use Rattle.sup_tree.specs.Tree.{app_of}
use Rattle.sup_tree.proofs.tree.Tree.copy.Given as goal

abbrev pub invariant-loop-app : goal.invariant-loop-app
invariant-loop-app l = map app_of l.apps.items ≡ map app_of (take l.app-index l.app-items)

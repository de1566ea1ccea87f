use Rattle.std.proofs.Common.{◌≡◌, map, drop}
use Rattle.sup_tree.specs.Tree.{app_of, module_in}
use Rattle.sup_tree.proofs.tree.Tree.module_in.Given as goal

abbrev pub invariant-loop-app : goal.invariant-loop-app
invariant-loop-app l = module_in l.slot (map app_of (drop l.app-index l.app-items)) ≡ module_in l.slot (map app_of l.app-items)

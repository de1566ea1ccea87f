use Rattle.std.proofs.Common.{◌≡◌, map, drop}
use Rattle.sup_tree.specs.Tree.{app_of, app_named}
use Rattle.sup_tree.proofs.tree.Tree.app.Given as goal

abbrev pub invariant-loop-app : goal.invariant-loop-app
invariant-loop-app l = app_named l.name (map app_of (drop l.app-index l.app-items)) ≡ app_named l.name (map app_of l.app-items)

use Rattle.std.proofs.Common.{◌≡◌, map, take}
use Rattle.sup_tree.specs.Changes.{apps_changed}
use Rattle.sup_tree.specs.Tree.{app_of}
use Rattle.sup_tree.proofs.tree.Tree.change_children.Given as goal

abbrev pub invariant-loop-app : goal.invariant-loop-app
invariant-loop-app l = map app_of l.apps.items ≡ apps_changed l.module l.table.children (map app_of (take l.app-index l.app-items))

use Rattle.std.proofs.Common.{◌≡◌, ◌++◌, map, drop}
use Rattle.sup_tree.specs.Tree.{app_of, processes_using}
use Rattle.sup_tree.proofs.tree.Tree.processes_using.Given as goal

abbrev pub invariant-loop-app : goal.invariant-loop-app
invariant-loop-app l = l.pids.items ++ processes_using l.«module» (map app_of (drop l.app-index l.app-items)) ≡ processes_using l.module (map app_of l.app-items)

use Rattle.std.proofs.Common.{◌≡◌, ◌+◌, ◌≤◌, drop, length, map}
use Rattle.std.specs.List.{flat_map}
use Rattle.started_members.specs.Members.{supervisors_in}
use Rattle.sup_tree.specs.Tree.{App, app_of}
use Rattle.sup_tree.proofs.children.has_one_super.Given as goal

abbrev pub invariant-loop-app : goal.invariant-loop-app
invariant-loop-app l =
    (l.count ≤ 1)
    × (l.count + length (flat_map (λ (a : App). supervisors_in l.module a.members) (map app_of (drop l.app-index l.apps)))
    ≡ length (flat_map (λ (a : App). supervisors_in l.module a.members) (map app_of l.apps)))

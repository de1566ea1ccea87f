use Rattle.std.proofs.Common.{◌≡◌, ◌++◌}
use Rattle.std.specs.Vec.Iter.{into_iter_items}
use Rattle.started_members.specs.Changes.{branches_of, members_in}
use Rattle.started_members.proofs.changes.joined.Given as goal

-- the members so far, with those of the branches that are left
abbrev pub invariant-loop-branch : goal.invariant-loop-branch
invariant-loop-branch l =
    goal.iterator-loop-branch.can_next l.branch-iterator
    × goal.iterator-loop-branch.is_finite l.branch-iterator
    × (l.members.items ++ members_in (branches_of (into_iter_items l.branch-iterator)) ≡ members_in (branches_of l.fn.branches.items))

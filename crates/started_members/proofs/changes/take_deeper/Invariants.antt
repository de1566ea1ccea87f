use Rattle.std.proofs.Common.{◌≡◌, ◌++◌, reverse, vec_len}
use Rattle.started_members.specs.Changes.{behind_deeper, branches_of, deeper}
use Rattle.started_members.proofs.changes.take_deeper.Given as goal

-- those that are taken, with those that come after them
abbrev pub invariant-loop-branch : goal.invariant-loop-branch
invariant-loop-branch l =
    (branches_of l.taken.items ++ deeper l.depth (reverse (branches_of l.branches.items)) ≡ deeper l.depth (reverse (branches_of l.initial.branches.items)))
    × (behind_deeper l.depth (reverse (branches_of l.branches.items)) ≡ behind_deeper l.depth (reverse (branches_of l.initial.branches.items)))

abbrev pub decreases-loop-branch : goal.decreases-loop-branch
decreases-loop-branch l = vec_len l.branches

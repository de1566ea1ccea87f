use Rattle.std.proofs.Common.{◌≡◌, map, reverse, vec_len}
use Rattle.mod_table.specs.InMemory.{child_of}
use Rattle.started_members.specs.Changes.{branches, branches_of}
use Rattle.started_members.proofs.ChangeLemmas.{onto}
use Rattle.started_members.proofs.changes.changed_members.Given as goal

-- the members that are left, put in front of the branches so far
abbrev pub invariant-loop-member : goal.invariant-loop-member
invariant-loop-member l =
    onto l.module (map child_of l.children) l.members.items (reverse (branches_of l.branches.items))
    ≡ branches l.module (map child_of l.children) l.fn.members.items

abbrev pub decreases-loop-member : goal.decreases-loop-member
decreases-loop-member l = vec_len l.members

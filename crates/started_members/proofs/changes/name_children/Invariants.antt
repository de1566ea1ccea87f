use Rattle.std.proofs.Common.{◌≡◌, ◌++◌, drop, map}
use Rattle.mod_table.specs.InMemory.{child_of}
use Rattle.started_members.specs.Changes.{branches_of, new_children}
use Rattle.started_members.proofs.changes.name_children.Given as goal

-- those that are named, with those that come after them
abbrev pub invariant-loop-child : goal.invariant-loop-child
invariant-loop-child l =
    branches_of l.named.items ++ new_children l.depth (map child_of (drop l.child-index l.children)) (branches_of l.earlier.items)
    ≡ new_children l.depth (map child_of l.children) (branches_of l.fn.earlier.items)

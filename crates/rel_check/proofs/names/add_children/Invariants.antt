use Rattle.std.proofs.Common.{◌≡◌, ◌++◌, map, drop}
use Rattle.rel_files.specs.Release.{application_of}
use Rattle.mod_table.specs.InMemory.{child_of}
use Rattle.mod_table.specs.Table.{ChildSpec}
use Rattle.rel_check.specs.InMemory.{named_of}
use Rattle.rel_check.specs.Names.{named_by}
use Rattle.rel_check.proofs.names.add_children.Given as goal

abbrev pub invariant-loop-child : goal.invariant-loop-child
invariant-loop-child l =
    map named_of l.names.items ++ named_by (application_of l.app) (map (λ (c : ChildSpec). c.id) (map child_of (drop l.child-index l.children)))
    ≡ map named_of l.fn.names.items ++ named_by (application_of l.app) (map (λ (c : ChildSpec). c.id) (map child_of l.children))

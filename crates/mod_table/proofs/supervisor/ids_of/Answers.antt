use Rattle.std.proofs.Common.{List, map, ap, ◌∙◌}
use Rattle.std.proofs.lemmas.List.{take_all}
use Rattle.mod_table.specs.declared.child.Child.{Child}
use Rattle.mod_table.specs.Table.{ChildSpec}
use Rattle.mod_table.specs.InMemory.{child_of}
use Rattle.mod_table.proofs.supervisor.ids_of.Goals as goal

pub returns : goal.returns
returns c =
    c.loop-child.invariant ∙ ap (λ (xs : List Child). map (λ (x : ChildSpec). x.id) (map child_of xs)) (take_all c.loop-child.child-index c.args.children.now c.loop-child-test.false)

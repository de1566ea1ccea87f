use Rattle.std.proofs.Common.{◌≡◌, ℕ, List, map, take, Bor}
use Rattle.mod_table.specs.Table.{ChildSpec}
use Rattle.mod_table.specs.InMemory.{child_of}
use Rattle.mod_table.proofs.supervisor.ids_of.Given as goal

abbrev pub invariant-loop-child : goal.invariant-loop-child
invariant-loop-child l =
    map (λ (i : Bor (List ℕ)). i.now) l.ids.items ≡ map (λ (c : ChildSpec). c.id) (map child_of (take l.child-index l.children))

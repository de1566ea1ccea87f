use Rattle.std.proofs.Common.{◌≡◌, ◌++◌, map, drop}
use Rattle.std.specs.Option.{option_map}
use Rattle.erl_term.specs.Value.{members_of}
use Rattle.mod_table.specs.Children.{children_in}
use Rattle.mod_table.specs.InMemory.{child_of}
use Rattle.mod_table.proofs.child.children_in.Given as goal

abbrev pub invariant-loop-term : goal.invariant-loop-term
invariant-loop-term l =
    option_map (λ cs. map child_of l.children.items ++ cs) (children_in (members_of (drop l.term-index l.terms))) ≡ children_in (members_of l.terms)

use Rattle.std.proofs.Common.{◌≡◌, ◌++◌, take, string_bytes}
use Rattle.std.specs.List.{flat_map}
use Rattle.erl_term.specs.Value.{value_of}
use Rattle.erl_term.proofs.Characters.{member_text}
use Rattle.erl_term.proofs.printer.lists.print_string.Given as goal

abbrev pub invariant-loop-item : goal.invariant-loop-item
invariant-loop-item l =
    string_bytes l.out ≡ string_bytes l.initial.out ++ flat_map (λ t. member_text (value_of t)) (take l.item-index l.items)

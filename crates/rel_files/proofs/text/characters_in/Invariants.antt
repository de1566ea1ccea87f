use Rattle.std.proofs.Common.{◌≡◌, ◌++◌, drop, string_bytes}
use Rattle.std.specs.Option.{option_map}
use Rattle.erl_term.specs.Value.{members_of}
use Rattle.rel_files.specs.Sketch.{characters_in}
use Rattle.rel_files.proofs.text.characters_in.Given as goal

abbrev pub invariant-loop-item : goal.invariant-loop-item
invariant-loop-item l =
    option_map (λ cs. string_bytes l.text ++ cs) (characters_in l.lowest (members_of (drop l.item-index l.items))) ≡ characters_in l.lowest (members_of l.items)

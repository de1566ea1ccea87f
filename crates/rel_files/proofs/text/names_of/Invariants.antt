use Rattle.std.proofs.Common.{◌≡◌, ◌++◌, map, drop, string_bytes}
use Rattle.std.specs.Option.{option_map}
use Rattle.erl_term.specs.Value.{members_of}
use Rattle.rel_files.specs.Sketch.{names_of}
use Rattle.rel_files.proofs.text.names_of.Given as goal

abbrev pub invariant-loop-item : goal.invariant-loop-item
invariant-loop-item l =
    option_map (λ ns. map string_bytes l.names.items ++ ns) (names_of (members_of (drop l.item-index l.items))) ≡ names_of (members_of l.items)

use Rattle.std.proofs.Common.{◌≡◌, drop, is_some}
use Rattle.erl_term.specs.Printing.{characters_of}
use Rattle.erl_term.specs.Value.{members_of}
use Rattle.record_writer.proofs.depth.is_string.Given as goal

-- the members from here on are characters where all of them are
abbrev pub invariant-loop-item : goal.invariant-loop-item
invariant-loop-item l =
    is_some (characters_of (members_of l.items)) ≡ is_some (characters_of (members_of (drop l.item-index l.items)))

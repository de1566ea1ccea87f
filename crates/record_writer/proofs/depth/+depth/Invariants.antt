use Rattle.std.proofs.Common.{◌≡◌, ◌-◌, drop}
use Rattle.erl_term.specs.Value.{members_of}
use Rattle.rel_records.specs.Depth.{are_within}
use Rattle.record_writer.proofs.depth.+depth.Given as goal

-- the members from here on can be read back where all of them can
abbrev pub invariant-are_enclosed-loop-item : goal.invariant-are_enclosed-loop-item
invariant-are_enclosed-loop-item l =
    are_within (l.limit - 1) (members_of l.items) ≡ are_within (l.limit - 1) (members_of (drop l.item-index l.items))

use Rattle.std.proofs.Common.{◌≡◌, ◌++◌, map, drop}
use Rattle.std.specs.Option.{option_map}
use Rattle.erl_term.specs.Value.{members_of}
use Rattle.rel_records.specs.Parts.{assignment_read}
use Rattle.rel_records.specs.Reading.{assignments_of}
use Rattle.rel_records.proofs.assignment.assignments_in.Given as goal

-- what was read and what is left are all of them
abbrev pub invariant-loop-item : goal.invariant-loop-item
invariant-loop-item l =
    option_map (λ more. map assignment_read l.all.items ++ more) (assignments_of (members_of (drop l.item-index l.items))) ≡ assignments_of (members_of l.items)

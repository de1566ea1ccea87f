use Rattle.std.proofs.Common.{◌≡◌, map, drop}
use Rattle.rel_list.specs.Keyed.{entry_of}
use Rattle.rel_records.specs.Given.{are_in_order}
use Rattle.rel_records.specs.Parts.{assignment_read}
use Rattle.rel_records.proofs.statuses.are_in_order.Given as goal

-- the assignments that are left are in the order of the releases that are left, where all are in that of the list
abbrev pub invariant-loop-listed : goal.invariant-loop-listed
invariant-loop-listed l =
    are_in_order (map entry_of (drop l.listed-index l.releases)) (map assignment_read l.left.items) ≡ are_in_order l.list (map assignment_read l.fn.given.items)

use Rattle.std.proofs.Common.{◌≡◌, map, drop}
use Rattle.std.specs.Option.{option_or}
use Rattle.rel_records.specs.Given.{status_given}
use Rattle.rel_records.specs.Parts.{assignment_read}
use Rattle.rel_records.proofs.statuses.status_given.Given as goal

-- the assignments that are left count before the one that was found
abbrev pub invariant-loop-assignment : goal.invariant-loop-assignment
invariant-loop-assignment l =
    option_or (status_given l.vsn (map assignment_read (drop l.assignment-index l.given))) l.status ≡ status_given l.vsn (map assignment_read l.given)

use Rattle.std.proofs.Common.{◌≡◌, map, drop}
use Rattle.rel_records.specs.Lists.{assign_all}
use Rattle.rel_records.specs.Parts.{assignment_read}
use Rattle.rel_records.proofs.assignment.assign_all.Given as goal

-- the assignments that are left lead to where all of them lead
abbrev pub invariant-loop-assignment : goal.invariant-loop-assignment
invariant-loop-assignment l = assign_all (map assignment_read (drop l.assignment-index l.assignments)) l.list ≡ assign_all (map assignment_read l.assignments) l.fn.list

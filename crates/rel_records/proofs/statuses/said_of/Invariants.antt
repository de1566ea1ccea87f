use Rattle.std.proofs.Common.{◌≡◌, map, take}
use Rattle.rel_list.specs.Keyed.{entry_of}
use Rattle.rel_records.specs.Given.{said}
use Rattle.rel_records.specs.Parts.{assignment_read}
use Rattle.rel_records.proofs.statuses.said_of.Given as goal

-- what is said of the releases so far
abbrev pub invariant-loop-listed : goal.invariant-loop-listed
invariant-loop-listed l = l.said.items ≡ said (map assignment_read l.given) (map entry_of (take l.listed-index l.releases))

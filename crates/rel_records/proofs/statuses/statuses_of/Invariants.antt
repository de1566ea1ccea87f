use Rattle.std.proofs.Common.{◌≡◌, map, take}
use Rattle.rel_list.specs.Keyed.{entry_of}
use Rattle.rel_records.specs.StatusChanges.{statuses_of}
use Rattle.rel_records.proofs.statuses.statuses_of.Given as goal

-- the statuses of the releases so far
abbrev pub invariant-loop-listed : goal.invariant-loop-listed
invariant-loop-listed l = l.statuses.items ≡ statuses_of (map entry_of (take l.listed-index l.releases))

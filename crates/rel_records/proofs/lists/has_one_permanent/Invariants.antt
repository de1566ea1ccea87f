use Rattle.std.proofs.Common.{◌≡◌, ◌≤◌, length, map, take}
use Rattle.rel_list.specs.Keyed.{entry_of}
use Rattle.rel_list.specs.Releases.{of_status}
use Rattle.rel_list.specs.Status.{is_permanent}
use Rattle.rel_records.proofs.lists.has_one_permanent.Given as goal

-- how many of the releases so far are permanent
abbrev pub invariant-loop-listed : goal.invariant-loop-listed
invariant-loop-listed l = (l.count ≡ length (of_status is_permanent (map entry_of (take l.listed-index l.releases)))) × (l.count ≤ l.listed-index)

use Rattle.std.proofs.Common.{◌≡◌, map, drop}
use Rattle.rel_list.specs.Change.{has_other_temporary}
use Rattle.rel_list.specs.Keyed.{entry_of}
use Rattle.rel_list.proofs.list.has_other_temporary.Given as goal

abbrev pub invariant-loop-listed : goal.invariant-loop-listed
invariant-loop-listed l = has_other_temporary l.vsn (map entry_of (drop l.listed-index l.releases)) ≡ has_other_temporary l.vsn (map entry_of l.releases)

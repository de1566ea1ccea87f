use Rattle.std.proofs.Common.{◌≡◌, map, drop}
use Rattle.rel_list.specs.Keyed.{entry_of}
use Rattle.rel_list.specs.Releases.{library_in}
use Rattle.rel_list.proofs.list.ReleaseList.library.Given as goal

abbrev pub invariant-loop-listed : goal.invariant-loop-listed
invariant-loop-listed l = library_in (map entry_of (drop l.listed-index l.releases)) l.name l.vsn ≡ library_in l.self l.name l.vsn

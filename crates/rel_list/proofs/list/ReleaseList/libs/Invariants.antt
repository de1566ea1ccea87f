use Rattle.std.proofs.Common.{◌≡◌, map, take}
use Rattle.library.specs.InMemory.{library_of}
use Rattle.rel_list.specs.Keyed.{entry_of}
use Rattle.rel_list.specs.Releases.{libraries_of}
use Rattle.rel_list.proofs.list.ReleaseList.libs.Given as goal

abbrev pub invariant-loop-listed : goal.invariant-loop-listed
invariant-loop-listed l = map (λ k. library_of k.now) l.found.items ≡ libraries_of (map entry_of (take l.listed-index l.releases))

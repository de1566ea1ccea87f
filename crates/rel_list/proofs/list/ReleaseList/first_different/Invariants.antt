use Rattle.std.proofs.Common.{◌≡◌, map, drop}
use Rattle.library.specs.InMemory.{shared_of}
use Rattle.rel_list.specs.Releases.{first_different}
use Rattle.rel_list.proofs.list.ReleaseList.first_different.Given as goal

abbrev pub invariant-loop-library : goal.invariant-loop-library
invariant-loop-library l = first_different l.self (map shared_of (drop l.library-index l.libraries)) ≡ first_different l.self (map shared_of l.libraries)

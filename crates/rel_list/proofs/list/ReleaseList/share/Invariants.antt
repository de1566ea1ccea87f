use Rattle.std.proofs.Common.{◌≡◌, map}
use Rattle.library.specs.InMemory.{shared_of}
use Rattle.rel_list.specs.Releases.{shared}
use Rattle.rel_list.proofs.list.ReleaseList.share.Given as goal

abbrev pub invariant-loop-library : goal.invariant-loop-library
invariant-loop-library l = map shared_of l.all.items ≡ shared l.self (map shared_of l.yielded)

use Rattle.std.proofs.Common.{◌≡◌, List, ◌++◌, map, take}
use Rattle.library.specs.InMemory.{library_of, shared_of}
use Rattle.library.specs.Library.{Library}
use Rattle.rel_list.specs.Releases.{each_once}
use Rattle.rel_list.proofs.libraries.push_new.Given as goal

abbrev pub invariant-loop-library : goal.invariant-loop-library
invariant-loop-library l =
    (ls : List Library) → map (λ k. library_of k.now) l.fn.found.items ≡ each_once ls
    → map (λ k. library_of k.now) l.found.items ≡ each_once (ls ++ map shared_of (take l.library-index l.libraries))

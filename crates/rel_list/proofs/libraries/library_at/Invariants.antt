use Rattle.std.proofs.Common.{◌≡◌, map, drop}
use Rattle.library.specs.InMemory.{shared_of}
use Rattle.library.specs.Library.{library_at}
use Rattle.rel_list.proofs.libraries.library_at.Given as goal

abbrev pub invariant-loop-library : goal.invariant-loop-library
invariant-loop-library l = library_at l.name l.vsn (map shared_of (drop l.library-index l.libraries)) ≡ library_at l.name l.vsn (map shared_of l.libraries)

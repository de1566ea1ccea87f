use Rattle.std.proofs.Common.{map, drop}
use Rattle.rel_files.specs.Release.{application_of}
use Rattle.library.specs.InMemory.{shared_of}
use Rattle.rel_unpack.proofs.LibraryTurns.{AreReadTo}
use Rattle.rel_unpack.proofs.applications.read_libraries.Given as goal

abbrev pub invariant-loop-app : goal.invariant-loop-app
invariant-loop-app g l =
    AreReadTo (g.F.Files.gives l.fn.files) (map application_of l.apps) (map application_of (drop l.app-index l.apps)) (map shared_of l.libraries.items)

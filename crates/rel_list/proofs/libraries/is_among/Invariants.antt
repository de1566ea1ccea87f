use Rattle.std.proofs.Common.{◌≡◌, map, drop, is_some}
use Rattle.library.specs.InMemory.{library_of}
use Rattle.library.specs.Library.{library_at}
use Rattle.rel_list.proofs.libraries.is_among.Given as goal

abbrev pub invariant-loop-other : goal.invariant-loop-other
invariant-loop-other l =
    is_some (library_at (library_of l.library).app.name (library_of l.library).app.vsn (map (λ k. library_of k.now) (drop l.other-index l.found)))
    ≡ is_some (library_at (library_of l.library).app.name (library_of l.library).app.vsn (map (λ k. library_of k.now) l.found))

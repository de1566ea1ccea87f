use Rattle.std.proofs.Common.{◌≡◌, map, drop}
use Rattle.std.specs.List.{find}
use Rattle.std.specs.Str.{bytes_eq}
use Rattle.library.specs.InMemory.{shared_of}
use Rattle.library.specs.Library.{Library}
use Rattle.script_progress.proofs.calls.target_library.Given as goal

-- the libraries so far are of other applications
abbrev pub invariant-loop-library : goal.invariant-loop-library
invariant-loop-library l =
    find (λ (x : Library). bytes_eq x.app.name l.app) (map shared_of (drop l.library-index l.library-items))
    ≡ find (λ (x : Library). bytes_eq x.app.name l.app) (map shared_of l.library-items)

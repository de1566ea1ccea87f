use Rattle.std.proofs.Common.{◌≡◌, ◌++◌, map, drop}
use Rattle.std.specs.Option.{option_map}
use Rattle.library.specs.InMemory.{shared_of}
use Rattle.rel_files.specs.Release.{application_of}
use Rattle.rel_records.specs.Lists.{completed}
use Rattle.rel_records.proofs.bundle.complete.Given as goal

-- what was found and what the applications from here on complete are all of them
abbrev pub invariant-loop-app : goal.invariant-loop-app
invariant-loop-app l =
    option_map (λ more. map shared_of l.libraries.items ++ more) (completed l.list (map application_of (drop l.app-index l.apps)) (map shared_of l.rest))
    ≡ completed l.list (map application_of l.apps) (map shared_of l.new)

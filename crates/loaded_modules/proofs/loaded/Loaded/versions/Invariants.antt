use Rattle.std.proofs.Common.{◌≡◌, ◌++◌, map}
use Rattle.std.specs.Map.Iter.{deref_pair}
use Rattle.loaded_modules.specs.Loaded.{name_and_version, named_in, listed_in}
use Rattle.loaded_modules.proofs.loaded.Loaded.versions.Given as goal

-- those that are noted, and after them what is left of the map
abbrev pub invariant-loop-name : goal.invariant-loop-name
invariant-loop-name l =
    map deref_pair l.versions.items ++ map name_and_version (map named_in l.name-iterator) ≡ map name_and_version (listed_in l.self)

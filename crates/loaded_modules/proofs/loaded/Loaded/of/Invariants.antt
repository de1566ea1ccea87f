use Rattle.std.proofs.Common.{◌≡◌, ℕ, List, map, drop}
use Rattle.std.specs.Option.{option_or}
use Rattle.library.specs.InMemory.{shared_of}
use Rattle.loaded_modules.specs.Loaded.{modules_of, modules_in_map, listed_in_map, listed_modules, libraries_behind}
use Rattle.loaded_modules.proofs.loaded.Loaded.of.Given as goal

abbrev pub invariant-loop-library : goal.invariant-loop-library
invariant-loop-library l =
    let libraries = map shared_of l.libraries in
    let left = map shared_of (drop l.library-index l.libraries) in
    record {
      loaded : (name : List ℕ) → option_or (modules_of left name) (modules_in_map l.modules name) ≡ modules_of libraries name;
      listed : libraries_behind (listed_in_map l.modules) left ≡ listed_modules libraries;
    }

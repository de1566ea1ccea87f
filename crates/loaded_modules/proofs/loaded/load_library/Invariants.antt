use Rattle.std.proofs.Common.{◌≡◌, ℕ, List, drop}
use Rattle.std.specs.Option.{option_or}
use Rattle.library.specs.InMemory.{shared_of}
use Rattle.loaded_modules.specs.Loaded.{modules_with, library_modules, modules_in_map, named_modules, loaded_behind, listed_in_map}
use Rattle.loaded_modules.proofs.loaded.load_library.Given as goal

-- what is left of the library goes in front of what was loaded so far, and is listed after it
abbrev pub invariant-loop-place : goal.invariant-loop-place
invariant-loop-place l =
    let library = shared_of l.library in
    let names_left = drop l.place library.app.modules in
    let tables_left = drop l.place library.tables in
    record {
      loaded : (name : List ℕ) → option_or (modules_with library.app names_left tables_left name) (modules_in_map l.modules name) ≡ option_or (library_modules library name) (modules_in_map l.initial.modules name);
      listed : loaded_behind (listed_in_map l.modules) (named_modules library.app names_left tables_left) ≡ loaded_behind (listed_in_map l.initial.modules) (named_modules library.app library.app.modules library.tables);
    }

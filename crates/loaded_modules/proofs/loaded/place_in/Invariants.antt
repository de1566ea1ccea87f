use Rattle.std.proofs.Common.{◌≡◌, drop}
use Rattle.std.specs.Option.{option_map, option_or}
use Rattle.library.specs.InMemory.{library_of}
use Rattle.loaded_modules.specs.Loaded.{library_modules, module_at, modules_with}
use Rattle.loaded_modules.proofs.loaded.place_in.Given as goal

-- what is left of the library goes in front of what was found so far
abbrev pub invariant-loop-place : goal.invariant-loop-place
invariant-loop-place l =
    let library = library_of l.library in
    option_or (modules_with library.app (drop l.place library.app.modules) (drop l.place library.tables) l.name) (option_map (module_at library) l.found) ≡ library_modules library l.name

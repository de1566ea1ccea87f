use Rattle.std.proofs.Common.{◌≡◌, ◌++◌, map, drop, string_bytes}
use Rattle.std.specs.Option.{option_map}
use Rattle.rel_files.specs.Release.{application_of}
use Rattle.library.specs.InMemory.{table_term_of}
use Rattle.rel_check.specs.Modules.{modules_with, modules_of}
use Rattle.rel_check.specs.InMemory.{part_of, module_of}
use Rattle.rel_check.proofs.modules.add_modules.Given as goal

abbrev pub invariant-loop-name : goal.invariant-loop-name
invariant-loop-name l =
    map module_of l.found.items
    ++ modules_with (application_of l.part.app.now) (map string_bytes (drop l.name-index l.name-items)) (map (λ t. option_map table_term_of t) l.tables)
    ≡ map module_of l.fn.found.items ++ modules_of (part_of l.part)

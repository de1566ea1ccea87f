use Rattle.std.proofs.Common.{map, drop, string_bytes}
use Rattle.std.specs.Option.{option_map}
use Rattle.rel_files.specs.Release.{application_of}
use Rattle.library.specs.InMemory.{table_term_of}
use Rattle.rel_unpack.specs.Applications.{ModuleAt}
use Rattle.rel_unpack.proofs.Turns.{AreDoneTo}
use Rattle.rel_unpack.proofs.tables.read_tables.Given as goal

abbrev pub invariant-loop-name : goal.invariant-loop-name
invariant-loop-name g l =
    AreDoneTo (ModuleAt (g.F.Files.gives l.fn.files) (application_of l.fn.app)) (map string_bytes l.names) (map string_bytes (drop l.name-index l.names)) (map (λ t. option_map table_term_of t) l.tables.items)

use Rattle.std.proofs.Common.{◌≡◌, ◌++◌, map, drop}
use Rattle.std.specs.Option.{option_map}
use Rattle.rel_files.specs.Release.{application_of}
use Rattle.library.specs.InMemory.{table_term_of}
use Rattle.library.specs.Library.{tables_there}
use Rattle.rel_check.specs.InMemory.{part_of, named_of}
use Rattle.rel_check.specs.Names.{named_by, ids_in, child_ids}
use Rattle.rel_check.proofs.names.child_ids.Given as goal

abbrev pub invariant-loop-file : goal.invariant-loop-file
invariant-loop-file l =
    map named_of l.names.items
    ++ named_by (application_of l.part.app.now) (ids_in (tables_there (map (λ t. option_map table_term_of t) (drop l.file-index l.file-items))))
    ≡ child_ids (part_of l.part)

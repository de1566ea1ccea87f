-- What a library stands for, without where it lies in memory.
use Rattle.std.specs.Prelude.{map}
use Rattle.std.specs.declared.alloc.Global.{Global}
use Rattle.std.specs.declared.rc.Rc.{Rc}
use Rattle.std.specs.Option.{option_map}
use Rattle.erl_term.specs.Value.{value_of}
use Rattle.rel_files.specs.AppInMemory.{specification_of}
use Rattle.mod_table.specs.declared.reader.ModFile.{ModFile}
use Rattle.library.specs.declared.library.Library as declared
use Rattle.library.specs.Library.{Library, TableTerm}

abbrev pub table_term_of : ModFile → TableTerm
table_term_of f = record { term = value_of f.term; table = f.table }

abbrev pub library_of : declared.Library → Library
library_of l = record { app = specification_of l.app; tables = map (λ t. option_map table_term_of t) l.tables.items }

-- a library that others share
abbrev pub shared_of : Rc declared.Library Global → Library
shared_of rc = library_of rc.value

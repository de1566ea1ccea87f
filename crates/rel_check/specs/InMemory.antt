-- What the parts of a release stand for, without where they lie in memory.
use Rattle.std.specs.Option.{option_map}
use Rattle.rel_files.specs.Release.{application_of}
use Rattle.library.specs.InMemory.{library_of}
use Rattle.rel_check.specs.declared.modules.Part as declared_part
use Rattle.rel_check.specs.declared.modules.Module as declared_module
use Rattle.rel_check.specs.declared.names.Named as declared_named
use Rattle.rel_check.specs.Modules.{Part, Module}
use Rattle.rel_check.specs.Names.{Named}

abbrev pub part_of : declared_part.Part → Part
part_of p = record { app = application_of p.app.now; library = library_of p.library.now }

abbrev pub module_of : declared_module.Module → Module
module_of m = record { name = m.name.now; app = application_of m.app.now; table = option_map (λ t. t.now) m.table }

abbrev pub named_of : declared_named.Named → Named
named_of n = record { name = n.name.now; app = application_of n.app.now }

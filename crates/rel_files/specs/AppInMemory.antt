-- What an application and its contents stand for, without where they lie in memory.
use Rattle.std.specs.Prelude.{map, string_bytes}
use Rattle.std.specs.Option.{option_map}
use Rattle.erl_term.specs.Value.{value_of}
use Rattle.rel_files.specs.declared.app.App.{App}
use Rattle.rel_files.specs.declared.app_contents.Contents as declared
use Rattle.rel_files.specs.AppParts.{Contents}
use Rattle.rel_files.specs.AppFile.{Specification}

abbrev pub contents_of : declared.Contents → Contents
contents_of c = record { name = string_bytes c.name; vsn = string_bytes c.vsn; modules = map string_bytes c.modules.items; top = option_map string_bytes c.top }

abbrev pub specification_of : App → Specification
specification_of a = record { name = string_bytes a.name; vsn = string_bytes a.vsn; modules = map string_bytes a.modules.items; top = option_map string_bytes a.top; whole = value_of a.whole }

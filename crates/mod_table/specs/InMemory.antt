-- What a child of a supervisor stands for, without where it lies in memory.
use Rattle.std.specs.Prelude.{string_bytes}
pub use Rattle.worker_table.specs.InMemory.{old_of}
use Rattle.mod_table.specs.declared.child.Child.{Child}
use Rattle.mod_table.specs.Table.{ChildSpec}

abbrev pub child_of : Child → ChildSpec
child_of c = record { id = string_bytes c.id; start = string_bytes c.module; restart = c.restart; kind = c.kind }

-- The first byte of an entry.
use Rattle.std.specs.Prelude.{ℕ}
use Rattle.rel_disk.specs.declared.log.Kind.{Kind}
use Rattle.rel_disk.specs.declared.log.Kind.TheVariants.{Synced, Wrote, CutTo}

abbrev pub kind_code : Kind → ℕ
kind_code Synced = 0
kind_code Wrote = 1
kind_code CutTo = 2

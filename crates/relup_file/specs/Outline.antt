-- What stands where in a relup, without where it lies in memory.
use Rattle.std.specs.Prelude.{string_bytes}
use Rattle.erl_term.specs.Value.{members_of}
use Rattle.relup_file.specs.declared.outline.Outline.{Outline}
use Rattle.relup_file.specs.Parts.{Outer}

abbrev pub outer_of : Outline → Outer
outer_of o = record { vsn = string_bytes o.vsn; ups = members_of o.ups.now; downs = members_of o.downs.now }

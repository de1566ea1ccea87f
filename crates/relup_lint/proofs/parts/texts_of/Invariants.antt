use Rattle.std.proofs.Common.{◌≡◌, ◌++◌, map, drop, string_bytes}
use Rattle.relup_lint.specs.Names.{texts}
use Rattle.relup_lint.proofs.parts.texts_of.Given as goal

abbrev pub invariant-loop-name : goal.invariant-loop-name
invariant-loop-name l = texts l.texts.items ++ map string_bytes (drop l.name-index l.names) ≡ map string_bytes l.names

use Rattle.std.proofs.Common.{◌≡◌, map, string_bytes, take}
use Rattle.relup_by_patterns.proofs.release.copy_names.Given as goal

abbrev pub invariant-loop-name : goal.invariant-loop-name
invariant-loop-name l = map string_bytes l.copied.items ≡ map string_bytes (take l.name-index l.names)

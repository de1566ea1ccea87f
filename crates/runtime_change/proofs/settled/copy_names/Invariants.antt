use Rattle.std.proofs.Common.{◌≡◌, map, take, string_bytes}
use Rattle.runtime_change.proofs.settled.copy_names.Given as goal

abbrev pub invariant-loop-name : goal.invariant-loop-name
invariant-loop-name l = map string_bytes l.copied.items ≡ map string_bytes (take l.name-index l.names)

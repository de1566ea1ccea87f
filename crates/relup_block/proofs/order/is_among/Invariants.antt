use Rattle.std.proofs.Common.{◌≡◌, map, drop, string_bytes}
use Rattle.relup_block.specs.Order.{is_among}
use Rattle.relup_block.proofs.order.is_among.Given as goal

abbrev pub invariant-loop-other : goal.invariant-loop-other
invariant-loop-other l = is_among l.name (map string_bytes (drop l.other-index l.names)) ≡ is_among l.name (map string_bytes l.names)

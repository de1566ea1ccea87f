use Rattle.std.proofs.Common.{◌≡◌, ◌≤◌}
use Rattle.proc_table.specs.Free.{free_below}
use Rattle.proc_table.proofs.handler.HandlerSeat.free_count.Given as goal

-- what was counted so far
abbrev pub invariant-loop-round : goal.invariant-loop-round
invariant-loop-round l = (l.count ≡ free_below l.self.view l.round-index) × (l.count ≤ l.round-index)

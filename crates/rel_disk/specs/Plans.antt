-- The plans of a disk that fails one call, and of a disk that stops.
use Rattle.std.specs.Prelude.{true, ◌-◌, ◌==◌, nat_lt, if◌then◌else◌}
use Rattle.rel_disk.specs.declared.fail_disk.Fault.{Fault}
use Rattle.rel_disk.specs.declared.stop_disk.Stop.{Stop}
use Rattle.rel_disk.specs.declared.plan.Turn.{Turn}
use Rattle.rel_disk.specs.declared.plan.Turn.TheVariants.{Passes, Fails, FailsInPart, Stops}

-- the last of the calls that are left fails
abbrev pub turn_of_fault : Fault → Turn
turn_of_fault f = if f.left == 1 then (if f.in_part then FailsInPart else Fails) else Passes

-- that call comes one call nearer
abbrev pub after_fault_turn : Fault → Fault
after_fault_turn f = record f { left = f.left - 1 }

-- a call is passed on, the disk stops in it, or it is after the stop
abbrev pub turn_of_stop : Stop → Turn
turn_of_stop s = if nat_lt 0 s.left then Passes else if s.stopped then Fails else Stops

-- the stop comes one call nearer, or it has come
abbrev pub after_stop_turn : Stop → Stop
after_stop_turn s = if nat_lt 0 s.left then record s { left = s.left - 1 } else record { left = 0; stopped = true }

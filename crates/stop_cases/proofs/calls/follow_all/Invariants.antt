use Rattle.std.proofs.Common.{IfOk}
use Rattle.stop_cases.specs.Running.{IsSoundNode}
use Rattle.stop_cases.proofs.calls.follow_all.Given as goal

abbrev pub invariant-loop-command : goal.invariant-loop-command
invariant-loop-command g l = IfOk l.place (IsSoundNode g.D.Disk.seen g.D.Disk.may_leave)

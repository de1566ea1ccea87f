use Rattle.surface_cases.specs.Nodes.{IsSoundNode}
use Rattle.surface_cases.proofs.handlers.follow_all.Given as goal

abbrev pub invariant-loop-command : goal.invariant-loop-command
invariant-loop-command g l = IsSoundNode g.D.Disk.seen g.D.Disk.may_leave l.node

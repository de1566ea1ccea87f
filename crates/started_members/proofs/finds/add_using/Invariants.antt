use Rattle.std.proofs.Common.{◌≡◌, ◌++◌, drop}
use Rattle.started_members.specs.Members.{processes_among, using_among}
use Rattle.started_members.proofs.finds.add_using.Given as goal

abbrev pub invariant-loop-member : goal.invariant-loop-member
invariant-loop-member l =
    l.pids.items ++ using_among l.«module» (processes_among (drop l.member-index l.members)) ≡ l.initial.pids.items ++ using_among l.«module» (processes_among l.members)

use Rattle.std.proofs.Common.{length, reverse}
use Rattle.proc_table.specs.declared.view.View.{View}
use Rattle.started_members.specs.Members.{pids_of, processes_among}
use Rattle.started_members.specs.Ends.{EndedInOrder}
use Rattle.started_members.proofs.ends.end_all.Given as goal

-- whatever ends of those that are left, the last first, completes the end of all
abbrev pub invariant-loop-last : goal.invariant-loop-last
invariant-loop-last g l =
    (w : View) → EndedInOrder (reverse (pids_of (processes_among l.members))) l.access w
    → EndedInOrder (reverse (pids_of (processes_among l.initial.members))) l.initial.access w

abbrev pub decreases-loop-last : goal.decreases-loop-last
decreases-loop-last g l = length l.members

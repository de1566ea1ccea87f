use Rattle.std.proofs.Common.{◌≡◌, ◌+◌, ◌≤◌, drop, length}
use Rattle.started_members.specs.Members.{supervisors_in}
use Rattle.started_members.proofs.finds.supervisor_count.Given as goal

abbrev pub invariant-loop-member : goal.invariant-loop-member
invariant-loop-member l =
    (l.count ≤ l.member-index) × (l.count + length (supervisors_in l.«module» (drop l.member-index l.members)) ≡ length (supervisors_in l.«module» l.members))

use Rattle.std.proofs.Common.{◌≡◌, drop}
use Rattle.started_members.specs.Members.{lower, lowest_with, processes_among}
use Rattle.started_members.proofs.finds.process_with.Given as goal

-- what was found, and what is among the members that are left
abbrev pub invariant-loop-member : goal.invariant-loop-member
invariant-loop-member l = lower l.found (lowest_with l.id (processes_among (drop l.member-index l.members))) ≡ lowest_with l.id (processes_among l.members)

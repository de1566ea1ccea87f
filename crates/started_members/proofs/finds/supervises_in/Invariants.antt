use Rattle.std.proofs.Common.{◌≡◌, drop}
use Rattle.started_members.specs.Members.{supervises_in}
use Rattle.started_members.proofs.finds.supervises_in.Given as goal

abbrev pub invariant-loop-member : goal.invariant-loop-member
invariant-loop-member l = supervises_in l.«module» (drop l.member-index l.members) ≡ supervises_in l.«module» l.members

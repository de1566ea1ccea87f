use Rattle.std.proofs.Common.{◌≡◌, take}
use Rattle.started_members.proofs.copies.copy_members.Given as goal

abbrev pub invariant-loop-member : goal.invariant-loop-member
invariant-loop-member l = l.copies.items ≡ take l.member-index l.members

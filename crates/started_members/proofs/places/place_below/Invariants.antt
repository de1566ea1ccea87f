use Rattle.std.proofs.Common.{◌≡◌, drop, take}
use Rattle.started_members.specs.Places.{child_at}
use Rattle.started_members.proofs.PlaceLemmas.{in_front}
use Rattle.started_members.proofs.places.place_below.Given as goal

abbrev pub invariant-loop-i : goal.invariant-loop-i
invariant-loop-i l = in_front (take l.i l.members) (child_at l.depth l.id (drop l.i l.members)) ≡ child_at l.depth l.id l.members

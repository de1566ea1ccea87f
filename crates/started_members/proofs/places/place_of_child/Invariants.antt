use Rattle.std.proofs.Common.{◌≡◌, drop, take}
use Rattle.started_members.specs.Places.{child_in}
use Rattle.started_members.proofs.PlaceLemmas.{in_front}
use Rattle.started_members.proofs.places.place_of_child.Given as goal

abbrev pub invariant-loop-i : goal.invariant-loop-i
invariant-loop-i l = in_front (take l.i l.members) (child_in l.«module» l.id (drop l.i l.members)) ≡ child_in l.«module» l.id l.members

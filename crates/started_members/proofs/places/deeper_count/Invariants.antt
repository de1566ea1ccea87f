use Rattle.std.proofs.Common.{◌≡◌, ◌+◌, drop, length}
use Rattle.started_members.specs.Places.{deeper_members}
use Rattle.started_members.proofs.places.deeper_count.Given as goal

abbrev pub invariant-loop-i : goal.invariant-loop-i
invariant-loop-i l = l.i + length (deeper_members l.depth (drop l.i l.members)) ≡ length (deeper_members l.depth l.members)

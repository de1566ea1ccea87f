use Rattle.std.proofs.Common.{◌≡◌, ◌+◌, ◌≤◌, length, drop}
use Rattle.app_members.specs.InMemory.{new_members_of}
use Rattle.app_members.specs.Walk.{starts_among}
use Rattle.app_members.proofs.walk.process_count.Given as goal

abbrev pub invariant-loop-member : goal.invariant-loop-member
invariant-loop-member l =
    (l.count ≤ l.member-index)
    × (l.count + length (starts_among (new_members_of (drop l.member-index l.members))) ≡ length (starts_among (new_members_of l.members)))

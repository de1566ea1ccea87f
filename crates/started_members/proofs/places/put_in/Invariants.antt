use Rattle.std.proofs.Common.{◌≡◌, ◌+◌, ◌≤◌, ◌++◌, drop, length, take, vec_len}
use Rattle.std.specs.Prelude.{vec_capacity}
use Rattle.started_members.proofs.places.put_in.Given as goal

-- those that are left are put in in front of what was put in
abbrev pub invariant-loop-member : goal.invariant-loop-member
invariant-loop-member l =
    (l.place ≤ length l.members.items)
    × (length l.members.items + length l.new.items ≤ vec_capacity l.members)
    × (take l.place l.initial.members.items ++ (l.initial.new.items ++ drop l.place l.initial.members.items)
    ≡ take l.place l.members.items ++ (l.new.items ++ drop l.place l.members.items))

abbrev pub decreases-loop-member : goal.decreases-loop-member
decreases-loop-member l = vec_len l.new

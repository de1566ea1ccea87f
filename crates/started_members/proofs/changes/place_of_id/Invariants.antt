use Rattle.std.proofs.Common.{◌≡◌, ◌++◌, drop, take}
use Rattle.std.specs.List.{find}
use Rattle.started_members.specs.Changes.{branches_of, has_id, without_id}
use Rattle.started_members.proofs.changes.place_of_id.Given as goal

-- it is none of the branches so far
abbrev pub invariant-loop-place : goal.invariant-loop-place
invariant-loop-place l =
    (find (has_id l.id) (branches_of l.branches) ≡ find (has_id l.id) (branches_of (drop l.place l.branches)))
    × (without_id l.id (branches_of l.branches) ≡ branches_of (take l.place l.branches) ++ without_id l.id (branches_of (drop l.place l.branches)))

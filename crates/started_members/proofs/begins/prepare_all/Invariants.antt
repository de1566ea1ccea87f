use Rattle.std.proofs.Common.{◌≡◌, map, take}
use Rattle.started_members.specs.Preparations.{preparation_of}
use Rattle.app_members.specs.InMemory.{new_members_of}
use Rattle.started_members.proofs.begins.prepare_all.Given as goal

abbrev pub invariant-loop-member : goal.invariant-loop-member
invariant-loop-member l = l.prepared.items ≡ map (preparation_of l.app) (new_members_of (take l.member-index l.members))

use Rattle.std.proofs.Common.{◌≡◌, vec_len}
use Rattle.held_processes.specs.Course.{course_after}
use Rattle.held_processes.specs.Course.Operation.{finish}
use Rattle.held_processes.specs.Following.{AreLonger}
use Rattle.held_processes.proofs.FollowLemmas.{past_of}
use Rattle.held_processes.proofs.ReleaseLemmas.{IsEnding}
use Rattle.held_processes.proofs.processes.HeldProcesses.finish.Given as goal

abbrev pub ghost-let_go : goal.ghost-let_go
ghost-let_go g a = past_of g.followed.first g.followed.courses a.self.held.slot

abbrev pub invariant-loop-place : goal.invariant-loop-place
invariant-loop-place g l =
    IsEnding g.followed.first g.followed.courses (course_after finish) l.places.items l.access
    × AreLonger l.initial.access l.access

abbrev pub decreases-loop-place : goal.decreases-loop-place
decreases-loop-place g l = vec_len l.places

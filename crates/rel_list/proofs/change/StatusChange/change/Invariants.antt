use Rattle.std.proofs.Common.{◌≡◌, ◌++◌, map, take, drop}
use Rattle.rel_list.specs.Change.{changed}
use Rattle.rel_list.proofs.change.StatusChange.change.Given as goal

-- the releases so far have their new statuses
abbrev pub invariant-loop-i : goal.invariant-loop-i
invariant-loop-i l = l.releases.entries ≡ map (changed l.self) (take l.i l.fn.releases.entries) ++ drop l.i l.fn.releases.entries

use Rattle.std.proofs.Common.{◌-◌, length}
use Rattle.rel_disk.proofs.WrittenPlaces.{ComesTo}
use Rattle.rel_disk.proofs.log.Log.is_written.Given as goal

-- one of the calls whose entries are left has the place where any call since the last sync has
abbrev pub invariant-loop-from : goal.invariant-loop-from
invariant-loop-from l = ComesTo l.place l.self.calls l.entries l.from

abbrev pub decreases-loop-from : goal.decreases-loop-from
decreases-loop-from l = length l.entries - l.from

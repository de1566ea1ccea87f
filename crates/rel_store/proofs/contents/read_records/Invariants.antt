use Rattle.std.proofs.Common.{◌≡◌, ◌-◌, ◌≤◌}
use Rattle.rel_store.specs.Contents.{HasOnlyRead}
use Rattle.rel_store.proofs.Scan.{IsReadTo, bodies_of}
use Rattle.rel_store.proofs.contents.read_records.Given as goal

abbrev pub invariant-loop-records : goal.invariant-loop-records
invariant-loop-records g l =
    IsReadTo (g.D.Disk.seen l.initial.disk) l.base l.gate (bodies_of l.records.items)
    × HasOnlyRead g.D.Disk.seen g.D.Disk.may_leave g.D.Disk.moment g.D.Disk.left_since l.initial.disk l.disk
    × (g.D.Disk.failures l.initial.disk ≤ g.D.Disk.failures l.disk)
    × (g.D.Disk.syncs l.disk ≡ g.D.Disk.syncs l.initial.disk)

abbrev pub decreases-loop-records : goal.decreases-loop-records
decreases-loop-records g l = l.len - l.gate

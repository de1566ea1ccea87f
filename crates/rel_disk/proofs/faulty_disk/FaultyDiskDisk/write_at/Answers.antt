use Rattle.std.proofs.Common.{◌/◌, length, arith, length-take}
use Rattle.rel_disk.proofs.DamageLemmas.{follows_torn, torn_same}
use Rattle.rel_disk.proofs.PlaceLemmas.{follows_wider, torn_wider}
use Rattle.rel_disk.proofs.faulty_disk.FaultyDiskDisk.write_at.Goals as goal

pub returns-in-Fails-clause-part : goal.returns-in-Fails-clause-part
returns-in-Fails-clause-part g c = torn_same c.args.at (length c.args.bytes.now) (g.D.Disk.seen c.args.self.now.disk)

pub returns-in-Fails-clause-crash : goal.returns-in-Fails-clause-crash
returns-in-Fails-clause-crash g c = follows_torn c.args.at (length c.args.bytes.now) (g.D.Disk.may_leave c.args.self.now.disk)

pub returns-in-FailsInPart-clause-part : goal.returns-in-FailsInPart-clause-part
returns-in-FailsInPart-clause-part g c =
    torn_wider c.args.at _ (length c.args.bytes.now) _ _ (omega (arith, length-take c.div_ceil.result c.args.bytes.now)) c.write_at-in-FailsInPart.ensures.part

pub returns-in-FailsInPart-clause-crash : goal.returns-in-FailsInPart-clause-crash
returns-in-FailsInPart-clause-crash g c =
    follows_wider c.args.at _ (length c.args.bytes.now) _ _ (omega (arith, length-take c.div_ceil.result c.args.bytes.now)) c.write_at-in-FailsInPart.ensures.crash

pub returns-in-Stops-clause-part : goal.returns-in-Stops-clause-part
returns-in-Stops-clause-part g c =
    let n = length c.args.bytes.now in
    torn_wider c.args.at _ n _ _ (omega (arith, length-take (n / 2) c.args.bytes.now)) c.write_at-in-Stops.ensures.part

pub returns-in-Stops-clause-crash : goal.returns-in-Stops-clause-crash
returns-in-Stops-clause-crash g c =
    let n = length c.args.bytes.now in
    follows_wider c.args.at _ n _ _ (omega (arith, length-take (n / 2) c.args.bytes.now)) c.write_at-in-Stops.ensures.crash

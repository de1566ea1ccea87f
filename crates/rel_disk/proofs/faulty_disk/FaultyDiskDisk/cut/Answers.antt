use Rattle.rel_disk.proofs.DamageLemmas.{cut_same, follows_cut}
use Rattle.rel_disk.proofs.faulty_disk.FaultyDiskDisk.cut.Goals as goal

pub returns-in_default-clause-part : goal.returns-in_default-clause-part
returns-in_default-clause-part g c = cut_same c.args.len (g.D.Disk.seen c.args.self.now.disk)

pub returns-in_default-clause-crash : goal.returns-in_default-clause-crash
returns-in_default-clause-crash g c = follows_cut c.args.len (g.D.Disk.may_leave c.args.self.now.disk)

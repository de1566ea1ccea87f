use Rattle.node_store.specs.State.{disk_in, start_in}
use Rattle.start_record.proofs.SpellingLemmas.{spells_one}
use Rattle.rel_handler.proofs.handler.Handler.start.Goals as goal

-- what a read gives is one of the images, and each has the start record of the permanent release
pub unreachable-requires : goal.unreachable-requires
unreachable-requires g c =
    let h = c.self.inside.node in
    let s = (rw (← c.self.view_is) at c.requires).started c.if-self.false (g.D.Disk.seen (disk_in h)) (g.met.D.Disk.reads_an_image (disk_in h)) in
    (rw c.in-Err-BadStart.field-0-is at c.in-Err-BadStart.ensures.refused).0 _ s.spells

pub returns-in-Ok-clause-reports : goal.returns-in-Ok-clause-reports
returns-in-Ok-clause-reports g c =
    rw (← c.self.view_is)
    (let h = c.self.inside.node in
    let s = (rw (← c.self.view_is) at c.requires).started c.if-self.false (g.D.Disk.seen (disk_in h)) (g.met.D.Disk.reads_an_image (disk_in h)) in
    (s.release, s.listed, spells_one (start_in g.D.Disk.seen h) _ _ c.in-Ok.ensures.read s.spells))

use Rattle.std.proofs.Common.{length}
use Rattle.rel_list.specs.Event.{event_of}
use Rattle.node_store.proofs.FormatLemmas.{commits_nothing, commits_in_format_2, dead_by_it, failed_by_it, sound_in_format_2}
use Rattle.node_store.proofs.node_store.NodeStore.write_installation.Goals as goal

-- no one-shot is written
pub returns-then-not-writes_one_shot-clause-failed : goal.returns-then-not-writes_one_shot-clause-failed
returns-then-not-writes_one_shot-clause-failed g c =
    failed_by_it g.D.Disk.failures (event_of c.args.event) (length c.args.body.now) c.args.self.now c.write.new.self c.write.result c.write.ensures.appends.refused (c.write.ensures.device c.requires.listed)

pub returns-then-not-writes_one_shot-clause-dead : goal.returns-then-not-writes_one_shot-clause-dead
returns-then-not-writes_one_shot-clause-dead g c =
    dead_by_it g.D.Disk.failures (event_of c.args.event) (length c.args.body.now) c.args.self.now c.write.new.self c.write.result c.write.ensures.appends.refused (c.write.ensures.device c.requires.listed) c.write.ensures.appends.dead

-- the format wasn't changed
pub returns-in_err-allow_one_shots-clause-commits : goal.returns-in_err-allow_one_shots-clause-commits
returns-in_err-allow_one_shots-clause-commits g c =
    let h = c.args.self.now in
    commits_nothing g.D.Disk h c.allow_one_shots.new.self c.allow_one_shots.ensures.reformats c.requires.sound c.requires.allowed.0 g.met.D.Disk.reads_an_image (event_of c.args.event) (length c.args.body.now) c.in_err-allow_one_shots.ensures.dead

-- it was
pub write-requires-2-clause-sound : goal.write-requires-2-clause-sound
write-requires-2-clause-sound g c =
    let a = c.in_ok-allow_one_shots.ensures in
    sound_in_format_2 g.D.Disk c.args.self.now c.allow_one_shots.new.self a.reformats c.requires.sound c.requires.allowed.0 g.met.D.Disk.reads_an_image a.works a.start a.ready

pub returns-clause-commits : goal.returns-clause-commits
returns-clause-commits g c =
    let a = c.in_ok-allow_one_shots.ensures in
    commits_in_format_2 g.D.Disk c.args.self.now c.allow_one_shots.new.self a.reformats c.requires.sound c.requires.allowed.0 g.met.D.Disk.reads_an_image a.works a.start a.ready
    (event_of c.args.event) (length c.args.body.now) c.write-2.new.self c.write-2.ensures.appends.commits

pub returns-clause-dead : goal.returns-clause-dead
returns-clause-dead g c =
    dead_by_it g.D.Disk.failures (event_of c.args.event) (length c.args.body.now) c.allow_one_shots.new.self c.write-2.new.self c.write-2.result c.write-2.ensures.appends.refused (c.write-2.ensures.device c.requires.listed) c.write-2.ensures.appends.dead

use Rattle.std.proofs.Common.{refl}
use Rattle.rel_session.proofs.InstallReplies.{has_installed, sound_behind}
use Rattle.rel_session.proofs.install.install_release.Goals as goal

pub returns-clause-sound : goal.returns-clause-sound
returns-clause-sound g c =
    let n = c.args.node.now in
    let new = record n { handler = c.install_release.new.self; processes = record n.processes { seat = c.install_release.new.seat; tree = c.install_release.new.tree; loaded = c.install_release.new.loaded } } in
    (c.install_release.ensures.commits.sound, sound_behind n new c.requires.sound.1 refl c.install_release.ensures.table c.install_release.ensures.lent c.install_release.ensures.free)

pub returns-clause-installed : goal.returns-clause-installed
returns-clause-installed g c =
    let n = c.args.node.now in
    let new = record n { handler = c.install_release.new.self; processes = record n.processes { seat = c.install_release.new.seat; tree = c.install_release.new.tree; loaded = c.install_release.new.loaded } } in
    has_installed g.D.Disk c.args.vsn.now n new c.install_release.result c.install_release.ensures.dead c.install_release.ensures.done c.install_release.ensures.room c.install_release.ensures.started
    c.install_release.ensures.installed

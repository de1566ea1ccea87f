use Rattle.std.proofs.Common.{refl}
use Rattle.rel_session.proofs.place.reported.Goals as goal

pub returns-clause-sound : goal.returns-clause-sound
returns-clause-sound g c =
    let started = c.requires.started in
    (c.requires.sound, record { table = started.table; alone = started.alone.lent; free = started.alone.free })

pub returns-clause-started : goal.returns-clause-started
returns-clause-started g c = (refl, c.requires.started.fresh, c.append_running-line.ensures, c.requires.started.begun)

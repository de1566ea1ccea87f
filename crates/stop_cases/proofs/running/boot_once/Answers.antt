use Rattle.stop_cases.proofs.running.boot_once.Goals as goal

pub returns-in-Ok : goal.returns-in-Ok
returns-in-Ok g c =
    let booted = c.in-Ok.ensures.booted in
    let started = c.in-Ok.ensures.started in
    (booted.sound, record { table = started.table; alone = started.alone.lent; free = started.alone.free })

use Rattle.node_start.proofs.node.start_node.Goals as goal

pub returns-in-Ok-clause-started : goal.returns-in-Ok-clause-started
returns-in-Ok-clause-started g c =
    let begun = c.in-Ok.ensures in
    record { table = begun.sound.table; alone = record { lent = begun.sound.alone; free = begun.sound.free }; fresh = begun.fresh; begun = begun.begun }

use Rattle.erl_term.specs.Value.{value_of}
use Rattle.worker_table.specs.InMemory.{old_of}
use Rattle.held_processes.specs.Course.Operation.{change}
use Rattle.held_processes.specs.Operations.{part_way, modules_by_slot}
use Rattle.script_cases.proofs.ways.change.Goals as goal

pub end-requires : goal.end-requires
end-requires g c κs within = (within, (c.in-Ok.ensures g.followed.first g.followed.courses c.args.access.now c.requires.1).0)

pub roll_back-requires : goal.roll_back-requires
roll_back-requires g c =
    let upgrade = c.args.upgrade.now in record {
      follow = (
        g.followed.first,
        part_way c.in-Err.field-0.slot (modules_by_slot upgrade.users.tree.now) upgrade.users.module.now (change (old_of upgrade.old.now) (value_of upgrade.extra.now)) g.followed.courses,
        (c.in-Err.ensures g.followed.first g.followed.courses c.args.access.now c.requires.1).0,
      );
    }

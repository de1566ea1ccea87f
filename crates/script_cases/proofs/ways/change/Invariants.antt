use Rattle.held_processes.specs.Course.{on_module}
use Rattle.held_processes.specs.Operations.{modules_by_slot}
use Rattle.held_processes.specs.Course.Operation.{change}
use Rattle.worker_table.specs.InMemory.{old_of}
use Rattle.erl_term.specs.Value.{value_of}
use Rattle.script_cases.proofs.ways.change.Given as goal

abbrev pub ghost-end : goal.ghost-end
ghost-end g a = record { first = g.followed.first; courses = on_module (modules_by_slot a.upgrade.now.users.tree.now) a.upgrade.now.users.module.now (change (old_of a.upgrade.now.old.now) (value_of a.upgrade.now.extra.now)) g.followed.courses }

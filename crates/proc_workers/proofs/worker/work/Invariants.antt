use Rattle.std.proofs.Common.{◌≡◌}
use Rattle.proc_workers.specs.Ends.{read_by, taken}
use Rattle.proc_workers.specs.Desks.{IsReached}
use Rattle.proc_workers.proofs.worker.work.Given as goal

-- the inbox and the desk are where the notes that were taken lead
abbrev pub invariant-loop : goal.invariant-loop
invariant-loop g l = ((goal.iterator-loop g).can_next l.iterator' × (goal.iterator-loop g).is_finite l.iterator')
    × (l.desk.pass.table ≡ l.table)
    × (read_by l.inbox ≡ read_by l.fn.inbox)
    × IsReached l.pid l.fn.pass.view (taken l.fn.inbox) (taken l.inbox) l.desk

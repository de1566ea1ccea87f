use Rattle.std.proofs.Common.{refl, ◌∙◌}
use Rattle.proc_table.proofs.WaitLemmas.{waited_not, waited_more}
use Rattle.proc_table.proofs.table.ProcTable.hold.Goals as goal

pub loop-init : goal.loop-init
loop-init g c = record { table = refl; waited = waited_not _ _ }

pub loop-preserved : goal.loop-preserved
loop-preserved g c =
    let missed = c.in-None-try_hold.ensures.held in
    record {
      table = c.in-None-try_hold.ensures.table ∙ c.loop.invariant.table;
      waited = waited_more _ _ _ _ missed.0 c.loop.invariant.waited missed.1 missed.2;
    }

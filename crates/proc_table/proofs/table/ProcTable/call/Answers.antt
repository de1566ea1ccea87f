use Rattle.std.proofs.Common.{refl, ◌∙◌, inl, inr}
use Rattle.proc_table.proofs.WaitLemmas.{waited_not, waited_more}
use Rattle.proc_table.proofs.table.ProcTable.call.Goals as goal

pub loop-init : goal.loop-init
loop-init g c = record { table = refl; waited = waited_not _ _ }

pub loop-preserved-in-Busy : goal.loop-preserved-in-Busy
loop-preserved-in-Busy g c = record {
  table = c.in-Busy.ensures.table ∙ c.loop.invariant.table;
  waited = waited_more _ _ _ _ 1 c.loop.invariant.waited (inl refl) c.in-Busy.ensures.answer;
}

pub loop-preserved : goal.loop-preserved
loop-preserved g c = record {
  table = c.in-Held.ensures.table ∙ c.loop.invariant.table;
  waited = waited_more _ _ _ _ 2 c.loop.invariant.waited (inr refl) c.in-Held.ensures.answer;
}

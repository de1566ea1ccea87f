use Rattle.std.proofs.Common.{rules, ◌<◌, subst, sym}
use Rattle.proc_table.proofs.Slots.{some_slot}
use Rattle.proc_table.proofs.StepLemmas.{learns_allowed}
use Rattle.proc_table.proofs.table.ProcTable.learn.Goals as goal

pub load-requires : goal.load-requires
load-requires c = (
  search rules,
  subst (λ n. 0 < n) (sym c.self.invariant.0) some_slot,
  learns_allowed _ _ _ _ c.requires.live,
)

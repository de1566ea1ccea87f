use Rattle.std.proofs.Common.{rules, ◌<◌, subst, sym}
use Rattle.proc_table.proofs.Slots.{some_slot}
use Rattle.proc_table.proofs.StepLemmas.{splits_allowed}
use Rattle.proc_table.proofs.table.ProcTable.split.Goals as goal

pub split_seat-requires : goal.split_seat-requires
split_seat-requires c = (
  search rules,
  subst (λ n. 0 < n) (sym c.self.invariant.0) some_slot,
  splits_allowed _ _ c.requires.ready c.requires.handler,
)

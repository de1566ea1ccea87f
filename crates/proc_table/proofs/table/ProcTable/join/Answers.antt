use Rattle.std.proofs.Common.{rules, ◌<◌, subst, sym}
use Rattle.proc_table.proofs.Slots.{some_slot}
use Rattle.proc_table.proofs.StepLemmas.{joins_allowed}
use Rattle.proc_table.proofs.table.ProcTable.join.Goals as goal

pub join_seat-requires : goal.join_seat-requires
join_seat-requires c = (
  search rules,
  search rules,
  c.requires.empty,
  subst (λ n. 0 < n) (sym c.self.invariant.0) some_slot,
  joins_allowed _ _ _ _ c.requires.ready.0 c.requires.ready.1 c.requires.pass c.requires.none_out,
)

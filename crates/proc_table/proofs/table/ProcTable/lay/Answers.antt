use Rattle.std.proofs.Common.{rules, ◌<◌, true, [], subst, sym, ◌∙◌}
use Rattle.proc_table.specs.Steps.{with_laid}
use Rattle.proc_table.proofs.PlaceLemmas.{place_within, slot_is}
use Rattle.proc_table.proofs.StepLemmas.{lays_allowed}
use Rattle.proc_table.proofs.table.ProcTable.lay.Goals as goal

pub load-requires : goal.load-requires
load-requires c = (
  search rules,
  subst (λ n. c.place_of-place.result < n) (sym c.self.invariant.0) (place_within _ _ c.place_of-place.ensures),
  lays_allowed _ _ _ _ _ _ c.place_of-place.ensures c.requires.ready c.requires.handler c.requires.out c.requires.has.1,
)

pub returns-clause-laid : goal.returns-clause-laid
returns-clause-laid c =
    c.load.ensures.2 ∙ λ i. (with_laid c.args.seat.now.me.0 (slot_is _ _ c.place_of-place.ensures i) true, [])

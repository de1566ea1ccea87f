use Rattle.std.proofs.Common.{rules, ◌<◌, [], subst, sym, ◌∙◌}
use Rattle.proc_table.specs.Steps.{given}
use Rattle.proc_table.proofs.PlaceLemmas.{place_within, slot_is}
use Rattle.proc_table.proofs.StepLemmas.{gives_allowed}
use Rattle.proc_table.proofs.table.ProcTable.give.Goals as goal

pub store-requires : goal.store-requires
store-requires g c = (
  search rules,
  subst (λ n. c.place_of-place.result < n) (sym c.self.invariant.0) (place_within _ _ c.place_of-place.ensures),
  gives_allowed _ _ _ _ _ _ c.place_of-place.ensures c.requires.adds,
)

pub returns-clause-gave : goal.returns-clause-gave
returns-clause-gave g c =
    c.store.ensures.2 ∙ λ i. (given c.args.seat.now.me.0 (slot_is _ _ c.place_of-place.ensures i) g.E.Adds.added, [])

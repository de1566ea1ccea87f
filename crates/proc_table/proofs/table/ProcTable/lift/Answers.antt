use Rattle.std.proofs.Common.{rules, ◌<◌, false, [], ◌∷◌, subst, sym, ◌∙◌}
use Rattle.proc_table.specs.Steps.{with_laid}
use Rattle.proc_table.proofs.PlaceLemmas.{place_within, slot_is}
use Rattle.proc_table.proofs.StepLemmas.{lifts_allowed}
use Rattle.proc_table.proofs.table.ProcTable.lift.Goals as goal

pub load-requires : goal.load-requires
load-requires c = (
  search rules,
  subst (λ n. c.place_of-place.result < n) (sym c.self.invariant.0) (place_within _ _ c.place_of-place.ensures),
  lifts_allowed _ _ _ _ _ c.place_of-place.ensures c.requires.ready c.requires.handler c.requires.out c.requires.laid c.requires.empty,
)

pub returns-clause-lifted : goal.returns-clause-lifted
returns-clause-lifted c =
    let at = c.place_of-place.ensures in
    let lifted = c.load.ensures.2 in
    (lifted.0, lifted.1 ∙ λ i. (with_laid c.args.seat.now.me.0 (slot_is _ _ at i) false, (at.is i, lifted.0) ∷ []))

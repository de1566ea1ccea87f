use Rattle.std.proofs.Common.{rules, ◌==◌, ◌<◌, MatchBool, subst, sym}
use Rattle.proc_table.specs.Steps.{Took, Missed}
use Rattle.proc_table.proofs.PlaceLemmas.{place_within, slot_is}
use Rattle.proc_table.proofs.StepLemmas.{takes_allowed}
use Rattle.proc_table.proofs.table.ProcTable.take.Goals as goal

pub compare_exchange-requires : goal.compare_exchange-requires
compare_exchange-requires c = (
  search rules,
  subst (λ n. c.place_of-place.result < n) (sym c.self.invariant.0) (place_within _ _ c.place_of-place.ensures),
  takes_allowed _ _ _ _ _ _ c.requires.ready c.place_of-place.ensures c.requires.mark,
)

pub returns-clause-reported : goal.returns-clause-reported
returns-clause-reported c =
    let n = c.compare_exchange.result in
    let me = c.args.seat.now.me in
    let w = c.compare_exchange.new.seat.me in
    subst (λ p. MatchBool (n == 0) (Took p me w) (Missed p n me w)) (slot_is _ _ c.place_of-place.ensures) c.compare_exchange.ensures.2

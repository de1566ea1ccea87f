use Rattle.std.proofs.Common.{◌≡◌, ap, sym, ◌∙◌}
use Rattle.erl_term.specs.Value.{value_of}
use Rattle.proc_history.specs.InMemory.{old_of}
use Rattle.proc_history.specs.Changes.{finds_row}
use Rattle.proc_table.specs.Holds.{Holding}
use Rattle.proc_history.proofs.ReleaseLemmas.{row_may_come, may_come_row}
use Rattle.proc_table.proofs.held.Held.change.Goals as goal

pub returns-clause-found : goal.returns-clause-found
returns-clause-found c =
    let old = old_of c.args.old.now in
    let extra = value_of c.args.extra.now in
    let v = c.args.self.now.value in
    let found : c.change.result ≡ finds_row old extra v =
    c.change.ensures.found ∙ ap (finds_row old extra) (ap (λ (h : Holding). h.value) c.self.view_is) in
    (λ t. row_may_come old extra v (sym found ∙ t), λ m. found ∙ may_come_row old extra v m)

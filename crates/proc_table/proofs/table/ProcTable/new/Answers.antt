use Rattle.std.proofs.Common.{replicate, ap, sym, subst, ◌∙◌, List, length}
use Rattle.atomic_table.specs.Table.{opening}
use Rattle.proc_history.specs.declared.value.Value.{Value}
use Rattle.proc_table.specs.Agrees.{slots}
use Rattle.proc_history.specs.Values.{nothing}
use Rattle.proc_table.specs.Views.{handler_view}
use Rattle.proc_table.specs.Places.{ReachedBySlot}
use Rattle.proc_table.proofs.PlaceLemmas.{start_by_slot}
use Rattle.proc_table.proofs.Slots.{slots_is}
use Rattle.proc_table.proofs.Runs.{length_replicate}
use Rattle.proc_table.proofs.table.ProcTable.new.Goals as goal

pub new-requires : goal.new-requires
new-requires c = subst ReachedBySlot (λ i. opening (replicate (slots_is i) 0) (sym c.in_ok-values.ensures i) (handler_view slots)) start_by_slot

pub invariant_of-result : goal.invariant_of-result
invariant_of-result c =
    let made = c.in-Ok.ensures.ok in
    (made.0 ∙ sym slots_is, made.1 ∙ (ap (λ (l : List Value). length l) c.in_ok-values.ensures ∙ length_replicate slots nothing))

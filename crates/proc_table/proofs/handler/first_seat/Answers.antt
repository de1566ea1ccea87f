use Rattle.std.proofs.Common.{ap, sym, subst}
use Rattle.proc_table.specs.declared.TheConstants.{SLOTS}
use Rattle.proc_table.specs.Free.{Noted}
use Rattle.proc_table.specs.Seats.{IsHandler}
use Rattle.proc_table.specs.Steps.{Me}
use Rattle.proc_table.proofs.FreeLemmas.{first_noted}
use Rattle.proc_table.proofs.MeetLemmas.{first_handler}
use Rattle.proc_table.proofs.Slots.{slots_is}
use Rattle.proc_table.proofs.handler.first_seat.Goals as goal

pub invariant_of-result : goal.invariant_of-result
invariant_of-result c =
    let view = sym (ap (λ (m : Me). m.0) c.requires) in
    (ap (λ (m : Me). m.1) c.requires, subst IsHandler view first_handler, subst (Noted _) view (first_noted SLOTS (sym slots_is)))

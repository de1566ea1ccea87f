use Rattle.std.proofs.Common.{◌≡◌, sym, subst, ◌∙◌, arith, None}
use Rattle.proc_table.specs.Free.{next_in}
use Rattle.proc_table.specs.Seats.{Sitting}
use Rattle.proc_table.proofs.Slots.{slots_is}
use Rattle.proc_table.proofs.handler.HandlerSeat.lowest_free.Goals as goal

pub returns-clause-lowest : goal.returns-clause-lowest
returns-clause-lowest c = λ q inside.
    let all = c.loop-slot-test.false in
    let is = slots_is in
    subst (λ (s : Sitting). next_in s.view q ≡ None) c.self.view_is
    (sym (c.self.invariant.2.each q inside) ∙ c.loop-slot.invariant q (omega arith))

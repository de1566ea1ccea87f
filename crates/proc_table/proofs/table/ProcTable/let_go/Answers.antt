use Rattle.proc_table.proofs.FreeLemmas.{noted_released}
use Rattle.proc_table.proofs.HoldLemmas.{release_made}
use Rattle.proc_table.proofs.table.ProcTable.let_go.Goals as goal

pub invariant_of-seat : goal.invariant_of-seat
invariant_of-seat g c =
    let legal = rw (← c.seat.view_is, ← c.held.view_is) at c.requires.1.1.1.0 in
    let value = rw (← c.seat.view_is, ← c.held.view_is) at c.requires.1.1.1.1 in
    let made = release_made c.held.inside.slot c.seat.inside.seat.me.0 _ g.entries c.held.invariant c.seat.invariant.1 c.requires.1.1.0 legal c.put_down.ensures.gave in
    (made.empty, made.handler, rw (c.note.ensures, c.next_round.ensures) (noted_released c.seat.inside.next c.held.inside.slot g.entries c.held.inside.value c.seat.inside.seat.me.0 _ c.held.invariant c.seat.invariant.2 made.released value))

pub returns-clause-released : goal.returns-clause-released
returns-clause-released g c =
    let legal = rw (← c.seat.view_is, ← c.held.view_is) at c.requires.1.1.1.0 in
    let made = release_made c.held.inside.slot c.seat.inside.seat.me.0 _ g.entries c.held.invariant c.seat.invariant.1 c.requires.1.1.0 legal c.put_down.ensures.gave in
    rw (← c.seat.view_is, ← c.held.view_is) made.released

use Rattle.proc_history.specs.Releases.{entries_of}
use Rattle.proc_table.proofs.FreeLemmas.{noted_released}
use Rattle.proc_table.proofs.HoldLemmas.{release_made}
use Rattle.proc_history.proofs.ReleaseLemmas.{entries_by_handler}
use Rattle.proc_table.proofs.table.ProcTable.release.Goals as goal

pub invariant_of-seat : goal.invariant_of-seat
invariant_of-seat c =
    let x = c.held.inside.value in
    let legal = rw (← c.seat.view_is, ← c.held.view_is) at c.requires.legal in
    let value = rw (← c.seat.view_is, ← c.held.view_is) at c.requires.value in
    let made = release_made c.held.inside.slot c.seat.inside.seat.me.0 _ (entries_of x c.args.entries.now) c.held.invariant c.seat.invariant.1
    (entries_by_handler x c.args.entries.now) legal c.put_down_with.ensures.gave in
    (made.empty, made.handler, rw (c.note.ensures, c.next_round.ensures) (noted_released c.seat.inside.next c.held.inside.slot (entries_of x c.args.entries.now) x c.seat.inside.seat.me.0 _ c.held.invariant c.seat.invariant.2 made.released value))

pub returns-clause-released : goal.returns-clause-released
returns-clause-released c =
    let x = c.held.inside.value in
    let legal = rw (← c.seat.view_is, ← c.held.view_is) at c.requires.legal in
    let made = release_made c.held.inside.slot c.seat.inside.seat.me.0 _ (entries_of x c.args.entries.now) c.held.invariant c.seat.invariant.1
    (entries_by_handler x c.args.entries.now) legal c.put_down_with.ensures.gave in
    rw (← c.seat.view_is, ← c.held.view_is) made.released

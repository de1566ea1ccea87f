use Rattle.proc_table.proofs.PassLemmas.{peek_made, on_zero, took_alone}
use Rattle.proc_table.proofs.table.ProcTable.try_peek.Goals as goal

pub invariant_of-pass-2 : goal.invariant_of-pass-2
invariant_of-pass-2 c =
    let m = c.take-word.new.seat.me in
    let made = peek_made c.args.pid.slot c.args.pid.round c.pass.inside.seat.me.0 m _ _ c.args.pid.inside c.pass.invariant.1
    (took_alone _ _ m c.pass.invariant.0 (on_zero _ _ _ c.if-word-ne0.false c.take-word.ensures.reported)) c.look-state.ensures.state c.look-state.ensures.gave in
    (made.left.empty, made.left.pass)

pub returns-clause-answer : goal.returns-clause-answer
returns-clause-answer c =
    let m = c.take-word.new.seat.me in
    let made = peek_made c.args.pid.slot c.args.pid.round c.pass.inside.seat.me.0 m _ _ c.args.pid.inside c.pass.invariant.1
    (took_alone _ _ m c.pass.invariant.0 (on_zero _ _ _ c.if-word-ne0.false c.take-word.ensures.reported)) c.look-state.ensures.state c.look-state.ensures.gave in
    rw (← c.pass.view_is, c.of.ensures) made.answer

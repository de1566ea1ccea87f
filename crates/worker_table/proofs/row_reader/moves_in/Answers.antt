use Rattle.std.proofs.Common.{refl}
use Rattle.worker_table.specs.Rows.{move_in, moves_in}
use Rattle.rel_files.proofs.Rows.{ReadsEach, row_more, row_none, row_all}
use Rattle.worker_table.proofs.row_reader.moves_in.Goals as goal

each : ReadsEach move_in moves_in
each = record { none = refl; more = λ v vs. refl }

pub loop-term-preserved : goal.loop-term-preserved
loop-term-preserved c =
    row_more move_in moves_in each c.args.terms.now c.loop-term.term-index c.term-item.result c.loop-term.moves.items c.push.new.self.items c.in-Some.pair _
    c.loop-term-test.true c.term-item.is (rw c.in-Some.is at c.move_in.ensures) c.in_ok-push.ensures.items c.loop-term.invariant

pub returns : goal.returns
returns c = row_all move_in moves_in each c.args.terms.now c.loop-term.term-index c.loop-term.moves.items c.loop-term-test.false c.loop-term.invariant

pub returns-in_default : goal.returns-in_default
returns-in_default c =
    row_none move_in moves_in each c.args.terms.now c.loop-term.term-index c.term-item.result c.loop-term.moves.items _
    c.loop-term-test.true c.term-item.is (rw c.in_default.is at c.move_in.ensures) c.loop-term.invariant

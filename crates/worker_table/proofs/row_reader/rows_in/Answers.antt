use Rattle.std.proofs.Common.{map, refl}
use Rattle.worker_table.specs.InMemory.{row_of}
use Rattle.worker_table.specs.Rows.{row_in, rows_in}
use Rattle.rel_files.proofs.Rows.{ReadsEach, row_more, row_none, row_all, viewed}
use Rattle.worker_table.proofs.row_reader.rows_in.Goals as goal

each : ReadsEach row_in rows_in
each = record { none = refl; more = λ v vs. refl }

pub loop-term-preserved : goal.loop-term-preserved
loop-term-preserved c =
    row_more row_in rows_in each c.args.terms.now c.loop-term.term-index c.term-item.result (map row_of c.loop-term.rows.items) (map row_of c.push.new.self.items) (row_of c.in-Some.row) _
    c.loop-term-test.true c.term-item.is (rw c.in-Some.is at c.in_ok-row.ensures) (viewed row_of _ _ c.in-Some.row c.in_ok-push.ensures.items) c.loop-term.invariant

pub returns : goal.returns
returns c = row_all row_in rows_in each c.args.terms.now c.loop-term.term-index (map row_of c.loop-term.rows.items) c.loop-term-test.false c.loop-term.invariant

pub returns-in_default : goal.returns-in_default
returns-in_default c =
    row_none row_in rows_in each c.args.terms.now c.loop-term.term-index c.term-item.result (map row_of c.loop-term.rows.items) _
    c.loop-term-test.true c.term-item.is (rw c.in_default.is at c.in_ok-row.ensures) c.loop-term.invariant

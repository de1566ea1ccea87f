use Rattle.rel_files.proofs.Rows.{made_more, made_all}
use Rattle.worker_table.specs.InMemory.{keyed_row_of}
use Rattle.worker_table.proofs.rows.copied_rows.Goals as goal

pub loop-row-preserved : goal.loop-row-preserved
loop-row-preserved g c =
    made_more keyed_row_of keyed_row_of c.args.rows.now c.loop-row.row-index c.row-item.result c.loop-row.copied.items c.push.new.self.items c.in_ok-copy.field-0
    c.loop-row-test.true c.row-item.is c.in_ok-copy.ensures c.in_ok-push.ensures.items c.loop-row.invariant

pub returns : goal.returns
returns g c = made_all keyed_row_of keyed_row_of c.args.rows.now c.loop-row.row-index c.loop-row.copied.items c.loop-row-test.false c.loop-row.invariant

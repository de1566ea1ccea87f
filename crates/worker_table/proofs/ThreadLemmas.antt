-- The table of a worker may go to another thread, to its terms.
use denote.Param.Send.{IsSend, view_send, sendable}
use denote.Param.SendFields.{declared_send, variants_send}
use Rattle.std.proofs.Crossing.{Vec-send}
use Rattle.erl_term.proofs.ThreadLemmas.{text_send, term_send}
use Rattle.worker_table.proofs.index.Index.TheSendSync as index
use Rattle.worker_table.proofs.key.Key.TheSendSync as key
use Rattle.worker_table.specs.contracts.key.ticks.Counted as Counted
use Rattle.worker_table.specs.contracts.keyed_row.KeyedRow as KeyedRow
use Rattle.worker_table.specs.contracts.rows.Rows as Rows
use Rattle.worker_table.specs.contracts.rows.Rows.TheInside as TheRows
use Rattle.worker_table.specs.contracts.worker.Worker as Worker
use Rattle.worker_table.specs.contracts.worker.Worker.TheInside as TheWorker
use Rattle.worker_table.proofs.old.Old.TheSendSync as old

number_send : IsSend denote.Builtin.u32
number_send = search sendable

row_send : IsSend (KeyedRow.the_row Counted.the_row)
row_send =
    let n = number_send in
    let k = key.the_send Counted.the_row in
    let moves = Vec-send _ (search sendable) in
    variants_send (KeyedRow.enum Counted.the_row) ((k, (n, (n, tt))), ((k, (n, tt)), ((k, (n, tt)), ((old.the_send, (term_send, (moves, tt))), tt))))

rows_send : IsSend (Rows.the_row Counted.the_row)
rows_send =
    let rows = Vec-send (KeyedRow.the_row Counted.the_row) row_send in
    let index = index.the_send Counted.the_row in
    view_send (TheRows.the_row Counted.the_row) _ _ _ _ (declared_send (TheRows.the_type Counted.the_row) (rows, (index, (index, tt))))

pub worker_send : IsSend (Worker.the_row Counted.the_row)
worker_send = view_send (TheWorker.the_row Counted.the_row) _ _ _ _ (declared_send (TheWorker.the_type Counted.the_row) (text_send, (text_send, (number_send, (rows_send, tt)))))

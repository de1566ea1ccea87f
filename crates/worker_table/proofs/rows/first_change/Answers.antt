use Rattle.std.proofs.Common.{◌≡◌, Some, None, if◌then◌else◌, arith}
use Rattle.erl_term.specs.Value.{value_of}
use Rattle.worker_table.specs.Decide.{fits_change, moved_by}
use Rattle.worker_table.specs.InMemory.{old_of, keyed_row_of}
use Rattle.worker_table.proofs.FirstChange.{fits, fits_not}
use Rattle.worker_table.proofs.rows.first_change.Goals as goal

pub returns-in-Some : goal.returns-in-Some
returns-in-Some g c =
    let row = c.row-item.result in
    let found : Some c.in-Some.next ≡ (if fits_change (old_of c.args.old.now) (value_of c.args.extra.now) (keyed_row_of row) then Some (moved_by c.args.state (keyed_row_of row)) else None) =
    rw c.in-Some.is at c.change.ensures in
    fits keyed_row_of c.args.rows.now c.loop-row.row-index row (omega arith) c.row-item.is (old_of c.args.old.now) (value_of c.args.extra.now) c.args.state c.loop-row.invariant _ found

pub loop-row-preserved : goal.loop-row-preserved
loop-row-preserved g c =
    let row = c.row-item.result in
    let none : None ≡ (if fits_change (old_of c.args.old.now) (value_of c.args.extra.now) (keyed_row_of row) then Some (moved_by c.args.state (keyed_row_of row)) else None) =
    rw c.in_default.is at c.change.ensures in
    fits_not keyed_row_of c.args.rows.now c.loop-row.row-index row (omega arith) c.row-item.is (old_of c.args.old.now) (value_of c.args.extra.now) c.args.state c.loop-row.invariant none

use Rattle.std.proofs.Common.{◌+◌, refl, subst, sym, arith, ap}
use Rattle.store_report.proofs.Places.{IsAt, gate_after, gate_bound, next_gate}
use Rattle.store_report.proofs.report.end_of.Goals as goal

pub loop-record-init : goal.loop-record-init
loop-record-init c = record { place = refl }

pub gate_after-gate-requires : goal.gate_after-gate-requires
gate_after-gate-requires c =
    omega (arith, c.requires, gate_bound c.args.records.now c.args.base c.loop-record.record-index c.loop-record.gate c.record-item.result c.as_slice.result.now c.loop-record-test.true c.record-item.is c.as_slice.ensures.value c.loop-record.invariant)

pub loop-record-preserved : goal.loop-record-preserved
loop-record-preserved c =
    subst (IsAt c.args.records.now c.args.base (c.loop-record.record-index + 1)) (sym c.gate_after-gate.ensures)
    (next_gate c.args.records.now c.args.base c.loop-record.record-index c.loop-record.gate c.record-item.result c.as_slice.result.now c.loop-record-test.true c.record-item.is c.as_slice.ensures.value c.loop-record.invariant)

pub returns : goal.returns
returns c = ap (λ n. n + 1) (gate_after c.args.records.now c.args.base c.loop-record.record-index c.loop-record.gate c.loop-record-test.false c.loop-record.invariant)

pub overflow_add-result : goal.overflow_add-result
overflow_add-result c = omega (arith, c.requires, gate_after c.args.records.now c.args.base c.loop-record.record-index c.loop-record.gate c.loop-record-test.false c.loop-record.invariant)

use Rattle.std.proofs.Common.{◌+◌, refl, subst, sym, arith}
use Rattle.store_report.proofs.Places.{IsShownTo, all_shown_to, gate_bound, one_more}
use Rattle.store_report.proofs.contents.push_records.Goals as goal

pub loop-i-init : goal.loop-i-init
loop-i-init c = record { gate = record { place = refl }; rest = refl }

pub gate_after-next-requires : goal.gate_after-next-requires
gate_after-next-requires c =
    omega (arith, c.requires, gate_bound c.args.records.now c.args.base c.loop-i.i c.loop-i.at c.index-records-i.result c.as_slice-body.result.now c.loop-i-test.true c.index-records-i.is c.as_slice-body.ensures.value c.loop-i.invariant.gate)

pub loop-i-preserved : goal.loop-i-preserved
loop-i-preserved c =
    subst (λ at. IsShownTo c.args.text.now.items c.push_record.new.text.items c.args.records.now c.args.base (c.loop-i.i + 1) at) (sym c.gate_after-next.ensures)
    (one_more c.args.records.now c.args.base c.loop-i.i c.loop-i.at c.index-records-i.result c.as_slice-body.result.now c.loop-i-test.true c.index-records-i.is c.as_slice-body.ensures.value c.args.text.now.items c.loop-i.text.items c.push_record.new.text.items c.loop-i.invariant c.in_ok-push_record.ensures)

pub returns : goal.returns
returns c = all_shown_to c.args.text.now.items c.loop-i.text.items c.args.records.now c.args.base c.loop-i.i c.loop-i.at c.loop-i-test.false c.loop-i.invariant

use Rattle.std.proofs.Common.{rules, inr, refl, ◌+◌, ap, Err}
use Rattle.rel_records.proofs.Progress.{begun, goes_on, bad_one, made_all, none_read}
use Rattle.rel_records.proofs.lists.read_list.Goals as goal

pub loop-i-init : goal.loop-i-init
loop-i-init c = begun c.args.format c.args.records.now c.new-list.result c.new-list.ensures

pub returns-in-Err-Bad-clause-bad : goal.returns-in-Err-Bad-clause-bad
returns-in-Err-Bad-clause-bad c =
    inr (
      c.loop-i.i + 1,
      refl,
      bad_one c.args.format c.args.records.now c.loop-i.i c.index-records-i.result c.as_slice.result.now c.loop-i.list c.loop-i.invariant c.loop-i-test.true c.index-records-i.is c.as_slice.ensures.value (c.in-Err-Bad.ensures.bad (ap (λ f. Err f) c.in-Err-Bad.field-0-is)),
    )

pub loop-i-preserved : goal.loop-i-preserved
loop-i-preserved c =
    goes_on c.args.format c.args.records.now c.loop-i.i c.index-records-i.result c.as_slice.result.now c.loop-i.list c.take_record.new.list c.loop-i.invariant c.loop-i-test.true c.index-records-i.is c.as_slice.ensures.value c.in-Ok.ensures.taken

pub returns-then-is_empty-clause-bad : goal.returns-then-is_empty-clause-bad
returns-then-is_empty-clause-bad c = inr (1, refl, none_read c.args.format c.args.records.now c.loop-i.i c.loop-i.list c.loop-i.invariant c.loop-i-test.false (search rules))

pub returns-clause-made : goal.returns-clause-made
returns-clause-made c = made_all c.args.format c.args.records.now c.loop-i.i c.loop-i.list c.loop-i.invariant c.loop-i-test.false (search rules)

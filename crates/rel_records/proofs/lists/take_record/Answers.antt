use Rattle.std.proofs.Common.{◌≡◌, Err, ap}
use Rattle.rel_records.specs.declared.fault.RecordFault.TheVariants.{Bad}
use Rattle.rel_records.proofs.ListLemmas.{cannot_stand}
use Rattle.rel_records.proofs.lists.take_record.Goals as goal

pub returns-in-Ok-clause-bad : goal.returns-in-Ok-clause-bad
returns-in-Ok-clause-bad c = λ bad. cannot_stand c.args.format c.args.body.now c.args.list.now _ c.in-Ok.ensures.spelled (c.take.ensures.bad bad)

pub returns-in-Err-clause-bad : goal.returns-in-Err-clause-bad
returns-in-Err-clause-bad c = λ bad r spelled. let same : c.in-Err.fault ≡ Bad = cc bad in absurd (c.in-Err.ensures.bad (ap (λ f. Err f) same) r spelled)

use Rattle.rel_records.specs.Parts.{parts_of}
use Rattle.rel_records.proofs.ReadingLemmas.{no_text, release_spelled, spelled_so, no_release_spelled, unspelled}
use Rattle.rel_records.proofs.reading.record_in.Goals as goal

pub returns-in_err-term-clause-bad : goal.returns-in_err-term-clause-bad
returns-in_err-term-clause-bad c = no_text c.args.body.now c.in_err-term.field-0.0 c.from_residual.result c.in_err-term.ensures.only c.from_residual.ensures

pub returns-in-Some-clause-spelled : goal.returns-in-Some-clause-spelled
returns-in-Some-clause-spelled c = release_spelled c.args.body.now _ c.in_ok-term.ensures.found (parts_of c.in-Some.parts) c.in-Some.ensures c.release_record.result c.release_record.ensures.says

pub returns-in-Some-clause-bad : goal.returns-in-Some-clause-bad
returns-in-Some-clause-bad c = λ bad. no_release_spelled c.args.body.now _ c.in_ok-term.ensures.found (parts_of c.in-Some.parts) c.in-Some.ensures (c.release_record.ensures.bad bad)

pub returns-clause-spelled : goal.returns-clause-spelled
returns-clause-spelled c = spelled_so c.args.body.now _ c.in_ok-term.ensures.found c.list_record.result c.list_record.ensures.says

pub returns-clause-bad : goal.returns-clause-bad
returns-clause-bad c = λ bad. unspelled c.args.body.now _ c.in_ok-term.ensures.found (c.list_record.ensures.bad bad c.in-None.ensures)

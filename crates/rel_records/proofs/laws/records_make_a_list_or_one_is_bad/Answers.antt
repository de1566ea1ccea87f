use Rattle.rel_records.proofs.RecordLaws.{make_or_bad, make_one, never_bad}
use Rattle.rel_records.proofs.laws.records_make_a_list_or_one_is_bad.Goals as goal

pub returns-clause-either : goal.returns-clause-either
returns-clause-either c = make_or_bad

pub returns-clause-one : goal.returns-clause-one
returns-clause-one c = make_one

pub returns-clause-never_both : goal.returns-clause-never_both
returns-clause-never_both c = never_bad

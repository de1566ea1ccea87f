use Rattle.rel_records.proofs.RecordLaws.{make_versions}
use Rattle.rel_records.proofs.laws.records_make_versions.Goals as goal

pub returns : goal.returns
returns c = make_versions

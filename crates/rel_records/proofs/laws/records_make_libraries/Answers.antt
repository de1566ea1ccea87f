use Rattle.rel_records.proofs.RecordLaws.{make_libraries}
use Rattle.rel_records.proofs.laws.records_make_libraries.Goals as goal

pub returns : goal.returns
returns c = make_libraries

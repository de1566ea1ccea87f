use Rattle.rel_records.proofs.FormatLemmas.{made_in_2}
use Rattle.rel_records.proofs.laws.records_make_it_in_format_2.Goals as goal

pub returns : goal.returns
returns c = made_in_2

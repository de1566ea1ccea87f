use Rattle.rel_records.proofs.BodyLemmas.{spells_once}
use Rattle.rel_records.proofs.laws.a_body_spells_one_record.Goals as goal

pub returns : goal.returns
returns c = spells_once

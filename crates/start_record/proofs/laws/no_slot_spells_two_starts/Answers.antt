use Rattle.start_record.proofs.SpellingLemmas.{spells_one}
use Rattle.start_record.proofs.laws.no_slot_spells_two_starts.Goals as goal

pub returns : goal.returns
returns c = spells_one

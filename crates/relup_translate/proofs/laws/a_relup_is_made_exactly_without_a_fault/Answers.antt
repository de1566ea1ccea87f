use Rattle.relup_translate.proofs.OutcomeLemmas.{makes_sound_ways}
use Rattle.relup_translate.proofs.laws.a_relup_is_made_exactly_without_a_fault.Goals as goal

pub returns : goal.returns
returns c = makes_sound_ways

use Rattle.relup_translate.proofs.WholeLemmas.{sound_is_whole}
use Rattle.relup_translate.proofs.laws.a_way_is_sound_where_each_changed_application_has_its_entry.Goals as goal

pub returns : goal.returns
returns c = sound_is_whole

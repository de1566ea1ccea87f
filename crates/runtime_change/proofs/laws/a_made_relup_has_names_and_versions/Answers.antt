use Rattle.runtime_change.proofs.NameLemmas.{made_relups_are_named}
use Rattle.runtime_change.proofs.laws.a_made_relup_has_names_and_versions.Goals as goal

pub returns : goal.returns
returns c = made_relups_are_named

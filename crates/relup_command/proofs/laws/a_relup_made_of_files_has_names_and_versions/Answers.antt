use Rattle.relup_command.proofs.NameLemmas.{made_relups_are_named}
use Rattle.relup_command.proofs.laws.a_relup_made_of_files_has_names_and_versions.Goals as goal

pub returns : goal.returns
returns g c = λ files. made_relups_are_named (g.F.Files.gives files)

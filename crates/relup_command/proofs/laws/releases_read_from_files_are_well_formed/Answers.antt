use Rattle.relup_command.proofs.NameLemmas.{read_releases_are_well_formed}
use Rattle.relup_command.proofs.laws.releases_read_from_files_are_well_formed.Goals as goal

pub returns : goal.returns
returns g c = λ files. read_releases_are_well_formed (g.F.Files.gives files)

use Rattle.rel_list.proofs.BootLaws.{installs_alike}
use Rattle.rel_list.proofs.laws.a_release_installs_alike_behind_a_boot.Goals as goal

pub returns : goal.returns
returns c = installs_alike

use Rattle.rel_list.proofs.BootLaws.{second_boot}
use Rattle.rel_list.proofs.laws.a_second_boot_changes_nothing.Goals as goal

pub returns : goal.returns
returns c = second_boot

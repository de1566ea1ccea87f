use Rattle.rel_list.proofs.BootLaws.{boot_leaves_no_one_shot}
use Rattle.rel_list.proofs.laws.a_boot_leaves_no_one_shot.Goals as goal

pub returns : goal.returns
returns c = boot_leaves_no_one_shot

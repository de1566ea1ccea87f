use Rattle.rel_list.proofs.BootLaws.{boot_changes_temporary_ones}
use Rattle.rel_list.proofs.laws.a_boot_changes_temporary_releases.Goals as goal

pub returns : goal.returns
returns c = boot_changes_temporary_ones

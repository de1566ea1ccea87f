use Rattle.file_replacement.proofs.CrashLemmas.{leaves_old_or_new}
use Rattle.file_replacement.proofs.laws.a_crash_leaves_the_old_text_or_the_new.Goals as goal

pub returns : goal.returns
returns c = leaves_old_or_new

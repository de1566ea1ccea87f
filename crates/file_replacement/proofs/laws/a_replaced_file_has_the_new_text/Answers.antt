use Rattle.file_replacement.proofs.CrashLemmas.{leaves_new}
use Rattle.file_replacement.proofs.laws.a_replaced_file_has_the_new_text.Goals as goal

pub returns : goal.returns
returns c = leaves_new

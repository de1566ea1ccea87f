use Rattle.relup_file.proofs.ScriptLemmas.{fault_is, is_fault}
use Rattle.relup_file.proofs.script_laws.the_fault_of_a_script_is_found.Goals as goal

pub returns : goal.returns
returns c = λ script f. (fault_is script f, is_fault script f)

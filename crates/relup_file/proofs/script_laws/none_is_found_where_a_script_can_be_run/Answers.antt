use Rattle.relup_file.proofs.ScriptLemmas.{runnable, is_runnable}
use Rattle.relup_file.proofs.script_laws.none_is_found_where_a_script_can_be_run.Goals as goal

pub returns : goal.returns
returns c = λ script. (runnable script, is_runnable script)

use Rattle.relup_exec.specs.Sites.{start_in}
use Rattle.script_cases.proofs.cases.push_outcome.Given as goal

abbrev pub ghost-push_whole : goal.ghost-push_whole
ghost-push_whole g a = start_in a.site.now

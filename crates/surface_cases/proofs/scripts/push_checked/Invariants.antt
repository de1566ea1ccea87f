use Rattle.relup_exec.specs.Sites.{start_in}
use Rattle.surface_cases.proofs.scripts.push_checked.Given as goal

abbrev pub ghost-push_carried_out : goal.ghost-push_carried_out
ghost-push_carried_out g a = start_in a.site.now
